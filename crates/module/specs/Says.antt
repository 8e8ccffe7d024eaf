-- What a module says: the bytes that it supplies when it is asked for some, and its reply to Get UDID.
use Rattle.std.specs.Prelude.{ℕ, zero, suc, List, [], ◌∷◌, ◌++◌, is_some, unwrap_or}
use Rattle.lists.specs.Choice.{pick}
use Rattle.pec.specs.Pec.{pec_from, pec_of}
use Rattle.udid.specs.Bytes.{udid_bytes}
use Rattle.module.specs.declared.state.Lasting.{Lasting}
use Rattle.module.specs.declared.state.Module.{Module}
use Rattle.module.specs.Receive.{for_write, for_read, starts}
use Rattle.module.specs.Supply.{address_byte, supplies}
use Rattle.module.specs.Obeys.{heard_all}

-- asked for n bytes: those that it supplies, and the module after them
unfoldable pub says : ℕ → Module → List ℕ
says zero m = []
says (suc n) m = pick (is_some (supplies m).byte) (unwrap_or (supplies m).byte 0xFF ∷ says n (supplies m).after) (says n (supplies m).after)

unfoldable pub after_asking : ℕ → Module → Module
after_asking zero m = m
after_asking (suc n) m = after_asking n (supplies m).after

-- the 19 bytes where PEC so far is c: the count, the identifier, the address byte, PEC over all
abbrev pub reply : Lasting → ℕ → List ℕ
reply o c = 17 ∷ (udid_bytes o.udid ++ (address_byte o ∷ pec_from c (17 ∷ (udid_bytes o.udid ++ (address_byte o ∷ []))) ∷ []))

-- START, bytes
abbrev pub sent : Module → List ℕ → Module
sent m bs = heard_all (starts m) bs

-- Get UDID: START, 61h for writing, the command, START, 61h for reading
abbrev pub asked : Module → ℕ → Module
asked m k = sent (sent m (for_write ∷ k ∷ [])) (for_read ∷ [])

-- PEC over those three bytes
abbrev pub asked_pec : ℕ → ℕ
asked_pec k = pec_of (for_write ∷ k ∷ for_read ∷ [])

-- the reply to Get UDID with the command byte k, its PEC over the whole packet
abbrev pub reply_to : Lasting → ℕ → List ℕ
reply_to o k = 17 ∷ (udid_bytes o.udid ++ (address_byte o ∷ pec_of (0xC2 ∷ k ∷ 0xC3 ∷ 17 ∷ (udid_bytes o.udid ++ (address_byte o ∷ []))) ∷ []))
