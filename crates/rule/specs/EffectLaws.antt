-- The effect of a trace by its three cases, and that the traces of the controller's commands do what the commands mean.
use Rattle.std.specs.Prelude.{ℕ, zero, suc, ◌+◌, ◌*◌, ◌/◌, ◌%◌, ◌<◌, ◌≡◌, refl, Bool, true, false, List, [], ◌∷◌, ◌++◌, eqb, ltb, length, get_or, drop}
use Rattle.std.proofs.Common.{sym, ap, ap₂, ◌∙◌, subst, inl, inr, arith, eqb-true, lt-ltb, ltb-true}
use Rattle.std.proofs.lemmas.List.{get_or_at}
use Rattle.lists.specs.AbsurdLaws.{zero_is_one}
use Rattle.lists.specs.Choice.{pick, and}
use Rattle.lists.specs.EachLaws.{append_bytes}
use Rattle.lists.specs.Each.{Each, Bytes}
use Rattle.pec.specs.Pec.{pec_of}
use Rattle.pec.proofs.PecLaws.{pec_byte}
use Rattle.wire.specs.Symbols.{STOP, ACK, NACK}
use Rattle.wire.specs.declared.address.Address.{Address}
use Rattle.trace.proofs.LengthLaws.{length_acked}
use Rattle.trace.specs.Trace.{acked}
use Rattle.arbitration.specs.Among.{Among}
use Rattle.udid.specs.Bytes.{udid_bytes}
use Rattle.udid.proofs.UdidLaws.{length_udid, udid_bytes_lem, same_equal, same_refl, same_bytes}
use Rattle.udid.specs.Udids.{Fits, same_udid}
use Rattle.udid.specs.declared.Udid.{Udid}
use Rattle.targets.specs.Target.{Target, map_targets, prepared, assigned_to}
use Rattle.commands.specs.CommandTraces.{prepare_trace, assign_trace}
use Rattle.commands.specs.RequestLaws.{prepare_symbols, assign_symbols}
use Rattle.commands.specs.Requests.{trace_of}
use Rattle.commands.specs.declared.command.Command.TheVariants.{Prepare, GetUdid, Assign}
use Rattle.commands.specs.declared.command.Handed.{Handed}
use Rattle.commands.specs.declared.command.Handed.TheVariants.{Send, Wait}
use Rattle.rule.specs.Acknowledge.{begins, acknowledges, somebody, answered, standing, sent_part, on_bus}
use Rattle.rule.specs.AcknowledgeLaws.{assign_stop}
use Rattle.commands.specs.SameTrace.{same}
use Rattle.commands.specs.SameTraceLaws.{same_self, same_true, same_false}
use Rattle.rule.specs.Effect.{address_in, effect}
use Rattle.rule.specs.TraceLaws as on-bus
use Rattle.rule.specs.Acted.{acted, Names}

-- ---- THE THREE CASES

-- the address byte of an Assign Address
assigning_address : (id : List ℕ) (b : ℕ) → length id ≡ 16 → address_in (assign_trace id b) ≡ b
assigning_address id b e =
    get_or_at (256 ∷ 194 ∷ 258 ∷ 4 ∷ 258 ∷ 17 ∷ 258 ∷ acked id) b (258 ∷ pec_of (194 ∷ 4 ∷ 17 ∷ (id ++ b ∷ [])) ∷ 258 ∷ 257 ∷ []) 0 39 (omega (arith, length_acked id))

-- Prepare To ARP clears the flag
pub effect_prepare : (t : Target) → effect prepare_trace t ≡ record { udid = t.udid; address_byte = t.address_byte; flag = 0 }
unfolding effect same
effect_prepare t = refl

-- Assign Address with the target's own identifier: it takes the address, and sets the flag
pub effect_assign : (t : Target) (b : ℕ) → b < 256 → effect (assign_trace (udid_bytes t.udid) b) t ≡ record { udid = t.udid; address_byte = 2 * (b / 2) + 1; flag = 1 }
unfolding effect
effect_assign t b h =
    let e : address_in (assign_trace (udid_bytes t.udid) b) ≡ b = assigning_address (udid_bytes t.udid) b (length_udid t.udid) in
    let p : same (assign_trace (udid_bytes t.udid) b) prepare_trace ≡ false = same_false _ _ (λ q. other (ap (λ (l : List ℕ). get_or l 3 0) q)) in
    rw (p, e, lt-ltb b 256 h, same_self (assign_trace (udid_bytes t.udid) b))
  where
    other : ◌≡◌ {A = ℕ} 4 1 → ⊥
    other q = omega arith

-- any other trace leaves it
pub effect_none : (tr : List ℕ) (t : Target) → (tr ≡ prepare_trace → ⊥) → ((b : ℕ) → b < 256 → tr ≡ assign_trace (udid_bytes t.udid) b → ⊥) → effect tr t ≡ t
unfolding effect
effect_none tr t n m = rw (same_false tr prepare_trace n) (go (ltb (address_in tr) 256) refl (same tr (assign_trace (udid_bytes t.udid) (address_in tr))) refl)
  where
    taken : Target
    taken = record { udid = t.udid; address_byte = 2 * (address_in tr / 2) + 1; flag = 1 }

    go : (a : Bool) → ltb (address_in tr) 256 ≡ a → (b : Bool) → same tr (assign_trace (udid_bytes t.udid) (address_in tr)) ≡ b → pick (and a b) taken t ≡ t
    go true h true e = absurd (m (address_in tr) (ltb-true _ _ h) (same_true _ _ e))
    go true h false e = refl
    go false h b e = refl

-- ---- an Assign Address names one identifier

-- the first n bytes of symbols that are each a byte with its ACK
bytes_in : ℕ → List ℕ → List ℕ
bytes_in zero l = []
bytes_in (suc n) [] = []
bytes_in (suc n) (x ∷ []) = []
bytes_in (suc n) (x ∷ a ∷ l) = x ∷ bytes_in n l

acked_bytes : (id l : List ℕ) → bytes_in (length id) (acked id ++ l) ≡ id
unfolding bytes_in
acked_bytes [] l = refl
acked_bytes (x ∷ id) l = ap (λ (r : List ℕ). x ∷ r) (acked_bytes id l)

assigning_identifier : (id : List ℕ) (b : ℕ) → length id ≡ 16 → bytes_in 16 (drop 7 (assign_trace id b)) ≡ id
assigning_identifier id b e =
    let l : List ℕ = b ∷ 258 ∷ pec_of (194 ∷ 4 ∷ 17 ∷ (id ++ b ∷ [])) ∷ 258 ∷ 257 ∷ [] in
    ap (λ (n : ℕ). bytes_in n (acked id ++ l)) (sym e) ∙ acked_bytes id l

-- ---- a trace without NACK was not cut

abbrev Quiet : List ℕ → Type 0
Quiet l = Each (λ (x : ℕ). x ≡ 259 → ⊥) l

quiet_acked : (bs l : List ℕ) → Bytes bs → Quiet l → Quiet (acked bs ++ l)
quiet_acked [] l h q = q
quiet_acked (b ∷ bs) l h q = ((λ e. byte b h.0 e), ((λ e. omega arith), quiet_acked bs l h.1 q))
  where
    byte : (b : ℕ) → b < 256 → b ≡ 259 → ⊥
    byte b h e = omega arith

quiet_assigning : (id : List ℕ) (b : ℕ) → Bytes id → b < 256 → Quiet (assign_trace id b)
quiet_assigning id b h g =
    let p = pec_byte 0 (194 ∷ 4 ∷ 17 ∷ (id ++ b ∷ [])) (omega arith) (omega arith, (omega arith, (omega arith, append_bytes id (b ∷ []) h (g, tt)))) in (
      λ e. omega arith,
      (
        λ e. omega arith,
        (
          λ e. omega arith,
          (
            λ e. omega arith,
            (
              λ e. omega arith,
              (
                λ e. omega arith,
                (
                  λ e. omega arith,
                  quiet_acked id _ h (λ e. omega arith, (λ e. omega arith, (λ e. omega arith, (λ e. omega arith, (λ e. omega arith, tt))))),
                ),
              ),
            ),
          ),
        ),
      ),
    )

answered_without_nack : (ack : List ℕ → Bool) (sent xs rest : List ℕ) → Quiet (answered ack sent xs rest) → answered ack sent xs rest ≡ xs ++ rest
unfolding answered
answered_without_nack ack sent [] rest q = refl
answered_without_nack ack sent (x ∷ xs) rest q =
    go (eqb x ACK) refl (ack sent) (λ r. answered_without_nack ack sent xs rest r) (λ r. answered_without_nack ack (sent ++ x ∷ []) xs rest r) q
  where
    go : (b : Bool) → eqb x ACK ≡ b → (c : Bool) → (Quiet (answered ack sent xs rest) → answered ack sent xs rest ≡ xs ++ rest)
        → (Quiet (answered ack (sent ++ x ∷ []) xs rest) → answered ack (sent ++ x ∷ []) xs rest ≡ xs ++ rest)
        → Quiet (pick b (pick c (ACK ∷ answered ack sent xs rest) (NACK ∷ STOP ∷ [])) (x ∷ answered ack (sent ++ x ∷ []) xs rest))
        → pick b (pick c (ACK ∷ answered ack sent xs rest) (NACK ∷ STOP ∷ [])) (x ∷ answered ack (sent ++ x ∷ []) xs rest) ≡ x ∷ (xs ++ rest)
    go true e true i j q = ap (λ (l : List ℕ). ACK ∷ l) (i q.1) ∙ ap (λ (y : ℕ). y ∷ (xs ++ rest)) (sym (eqb-true x ACK e))
    go true e false i j q = absurd (q.0 refl)
    go false e c i j q = ap (λ (l : List ℕ). x ∷ l) (j q.1)

-- ---- THE COMMANDS' TRACES DO WHAT THE COMMANDS MEAN

-- Get UDID: its fourth symbol is 03h
get_fourth : (x : Target) (ts : List Target) → get_or (on_bus (Send GetUdid) (x ∷ ts)) 3 0 ≡ 3
unfolding on_bus standing answered somebody acknowledges begins
get_fourth x ts = refl

effect_get : (ts : List Target) (t : Target) → Among t ts → effect (on_bus (Send GetUdid) ts) t ≡ t
effect_get [] t m = absurd m
effect_get (x ∷ ts) t m =
    effect_none (on_bus (Send GetUdid) (x ∷ ts)) t
    (λ q. prepare (sym (get_fourth x ts) ∙ ap (λ (l : List ℕ). get_or l 3 0) q))
    (λ b h q. assign (sym (get_fourth x ts) ∙ ap (λ (l : List ℕ). get_or l 3 0) q))
  where
    prepare : ◌≡◌ {A = ℕ} 3 1 → ⊥
    prepare q = omega arith

    assign : ◌≡◌ {A = ℕ} 3 4 → ⊥
    assign q = omega arith

-- Assign Address: its fourth symbol is 04h
assign_fourth : (u : Udid) (a : Address) (x : Target) (ts : List Target) → get_or (on_bus (Send (Assign u a)) (x ∷ ts)) 3 0 ≡ 4
unfolding on_bus standing answered somebody acknowledges begins
assign_fourth u a x ts = refl

-- the target with that identifier
effect_own : (u : Udid) (a : Address) (ts : List Target) (t : Target) → Among t ts → t.udid ≡ u
    → effect (on_bus (Send (Assign u a)) ts) t ≡ record { udid = t.udid; address_byte = 2 * (a.0 % 128) + 1; flag = 1 }
effect_own u a ts t m e =
    let n : 2 * (2 * (a.0 % 128) / 2) + 1 ≡ 2 * (a.0 % 128) + 1 = omega arith in
    ap (λ (tr : List ℕ). effect tr t) (on-bus.assign_whole ts u a t m e ∙ assign_symbols u a ∙ ap (λ (v : Udid). assign_trace (udid_bytes v) (2 * (a.0 % 128))) (sym e))
    ∙ effect_assign t (2 * (a.0 % 128)) (omega arith)
    ∙ ap (λ (b : ℕ). record { udid = t.udid; address_byte = b; flag = 1 }) n

-- a trace that is an Assign Address of some identifier is that of the command's
assign_names_one : (u : Udid) (a : Address) (ts : List Target) (id : List ℕ) (b : ℕ) → Bytes id → length id ≡ 16 → b < 256 → on_bus (Send (Assign u a)) ts ≡ assign_trace id b → udid_bytes u ≡ id
unfolding on_bus standing same
assign_names_one u a ts id b h l g q =
    let w : on_bus (Send (Assign u a)) ts ≡ trace_of (Send (Assign u a)) [] =
    answered_without_nack (λ (sent : List ℕ). somebody (acknowledges sent) ts) [] (sent_part (Send (Assign u a))) (STOP ∷ []) (subst Quiet (sym q) (quiet_assigning id b h g)) ∙ assign_stop u a in
    let r : assign_trace (udid_bytes u) (2 * (a.0 % 128)) ≡ assign_trace id b = sym (assign_symbols u a) ∙ sym w ∙ q in
    sym (assigning_identifier (udid_bytes u) (2 * (a.0 % 128)) (length_udid u)) ∙ ap (λ (x : List ℕ). bytes_in 16 (drop 7 x)) r ∙ assigning_identifier id b l

-- any other target
effect_other : (u : Udid) (a : Address) (ts : List Target) (t : Target) → Among t ts → Fits u → Fits t.udid → same_udid t.udid u ≡ false
    → effect (on_bus (Send (Assign u a)) ts) t ≡ t
effect_other u a [] t m f g e = absurd m
effect_other u a (x ∷ ts) t m f g e =
    effect_none (on_bus (Send (Assign u a)) (x ∷ ts)) t
    (λ q. fourth (sym (assign_fourth u a x ts) ∙ ap (λ (l : List ℕ). get_or l 3 0) q))
    (λ b h q. named ((same_bytes u t.udid f g).0 (assign_names_one u a (x ∷ ts) (udid_bytes t.udid) b (udid_bytes_lem t.udid) (length_udid t.udid) h q)))
  where
    fourth : ◌≡◌ {A = ℕ} 4 1 → ⊥
    fourth q = omega arith

    named : u ≡ t.udid → ⊥
    named q = zero_is_one (cc (e, ap (same_udid t.udid) q, same_refl t.udid))

effect_assigned : (u : Udid) (a : Address) (ts : List Target) (t : Target) → Among t ts → Fits u → Fits t.udid
    → effect (on_bus (Send (Assign u a)) ts) t ≡ assigned_to u a.0 t
effect_assigned u a ts t m f g = go (same_udid t.udid u) refl
  where
    go : (b : Bool) → same_udid t.udid u ≡ b
        → effect (on_bus (Send (Assign u a)) ts) t ≡ pick b (record { udid = t.udid; address_byte = 2 * (a.0 % 128) + 1; flag = 1 }) t
    go true e = effect_own u a ts t m (same_equal t.udid u e)
    go false e = effect_other u a ts t m f g e

-- Prepare To ARP
effect_prepared : (ts : List Target) (t : Target) → Among t ts → effect (on_bus (Send Prepare) ts) t ≡ prepared t
effect_prepared [] t m = absurd m
effect_prepared (x ∷ ts) t m = ap (λ (tr : List ℕ). effect tr t) (on-bus.prepare_whole x ts ∙ prepare_symbols []) ∙ effect_prepare t

-- an end is no command: no symbol stands on the bus
effect_nothing : (t : Target) → effect [] t ≡ t
unfolding effect same
effect_nothing t = refl

map_cong : (f g : Target → Target) (ts : List Target) → ((t : Target) → Among t ts → f t ≡ g t) → map_targets f ts ≡ map_targets g ts
map_cong f g [] h = refl
map_cong f g (t ∷ ts) h = ap₂ (λ (x : Target) (l : List Target). x ∷ l) (h t (inl refl)) (map_cong f g ts (λ x m. h x (inr m)))

map_identity : (f : Target → Target) (ts : List Target) → ((t : Target) → Among t ts → f t ≡ t) → map_targets f ts ≡ ts
map_identity f [] h = refl
map_identity f (t ∷ ts) h = ap₂ (λ (x : Target) (l : List Target). x ∷ l) (h t (inl refl)) (map_identity f ts (λ x m. h x (inr m)))

-- whatever the command and whoever is on the bus, as long as identifiers are numbers of 128 bits
pub effect_as_meant : (k : Handed) (ts : List Target) → Names k → ((t : Target) → Among t ts → Fits t.udid) → map_targets (effect (on_bus k ts)) ts ≡ acted k ts
unfolding on_bus standing
effect_as_meant (Send Prepare) ts n h = map_cong (effect (on_bus (Send Prepare) ts)) prepared ts (effect_prepared ts)
effect_as_meant (Send (Assign u a)) ts n h = map_cong (effect (on_bus (Send (Assign u a)) ts)) (assigned_to u a.0) ts (λ t m. effect_assigned u a ts t m n (h t m))
effect_as_meant (Send GetUdid) ts n h = map_identity (effect (on_bus (Send GetUdid) ts)) ts (effect_get ts)
effect_as_meant (Wait e) ts n h = map_identity (effect []) ts (λ t m. effect_nothing t)
