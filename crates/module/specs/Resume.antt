-- A module from a record of the model, in the middle of its life: the identifier, the address byte, the resolved flag.
use Rattle.std.specs.Prelude.{ℕ, ◌/◌, ◌%◌, ◌≡◌, Bool, true, ◌↔◌, Result, Ok, Err, ltb, eqb}
use Rattle.lists.specs.Choice.{pick, or, and, not}
use Rattle.udid.specs.declared.Udid.{Udid}
use Rattle.udid.specs.Udids.{is_fixed}
use Rattle.module.specs.declared.state.Lasting.{Lasting}
use Rattle.module.specs.declared.resume.RecordError.{RecordError}
use Rattle.module.specs.declared.resume.RecordError.TheVariants.{Malformed, NoHome}
use Rattle.module.specs.declared.state.Module.{Module}
use Rattle.module.specs.State.{silent_in}
use Rattle.module.specs.Supply.{address_byte}

-- refusal 10: the address byte is even, or the flag is above 1
abbrev pub is_malformed : ℕ → ℕ → Bool
is_malformed b g = or (eqb (b % 2) 0) (ltb 1 g)

-- refusal 12: it is fixed, and FFh is no address to be fixed at
abbrev pub lacks_home : Udid → ℕ → Bool
lacks_home u b = and (is_fixed u) (eqb b 0xFF)

-- FFh is for AV clear; any other byte has the address in its upper seven bits, and a fixed module is fixed there
abbrev pub recorded : Udid → ℕ → ℕ → ℕ → Lasting
recorded u b g f = record {
  udid = u;
  valid = not (eqb b 0xFF);
  address = pick (eqb b 0xFF) 0 (b / 2);
  resolved = eqb g 1;
  home = pick (eqb b 0xFF) 0xFF (b / 2);
  fresh = f;
}

-- the module of a record, or why there is none
unfoldable pub resumed : Udid → ℕ → ℕ → ℕ → Result Module RecordError
resumed u b g f = pick (is_malformed b g) (Err Malformed) (pick (lacks_home u b) (Err NoHome) (Ok (silent_in (recorded u b g f))))

-- the numbers of the answers: as for a list of targets, where a fixed one with FFh counts as 7Fh, which is reserved
abbrev pub resumed_number : Result Module RecordError → ℕ
resumed_number (Ok m) = 0
resumed_number (Err Malformed) = 10
resumed_number (Err NoHome) = 12

-- WHAT THE MODULE OF A RECORD IS: as after STOP, with the record's identifier, address byte and flag; FFh is for AV clear, and then the address is 0; any other byte has the
-- address in its upper seven bits, and a fixed one is fixed there
pub record AsRecorded (u : Udid) (b g f : ℕ) (m : Module) : Type 0 where
  pub silent : m ≡ silent_in m.own
  pub udid : m.own.udid ≡ u
  pub byte : address_byte m.own ≡ b
  pub flag : pick m.own.resolved 1 0 ≡ g
  pub valid : (m.own.valid ≡ true) ↔ (b ≡ 0xFF → ⊥)
  pub address : (b ≡ 0xFF → ⊥) → (m.own.address ≡ b / 2) × (m.own.home ≡ b / 2)
  pub none : b ≡ 0xFF → m.own.address ≡ 0
  pub fresh : m.own.fresh ≡ f
