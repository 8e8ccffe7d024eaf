-- What C is given and gives back unchanged is the same module, so that a run of calls is a run of the module's own methods. And which part of the
-- struct is which.
use Rattle.std.specs.Prelude.{◌≡◌, refl, Bool, true, false}
use Rattle.std.proofs.Common.{ap₂}
use Rattle.module.specs.declared.state.Lasting.{Lasting}
use Rattle.module.specs.declared.state.Module.{Module}
use Rattle.module.specs.declared.state.Phase.{Phase}
use Rattle.module.specs.State.{at}
use Rattle.c_codec.specs.Numbers.{truth, bit}
use Rattle.module.specs.Resume.{resumed}
use Rattle.c_module.specs.Modules.{lasting_in, module_in, told_module, told_resumed}
use Rattle.c_module.specs.PhaseLaws.{phase_back}

truth_back : (b : Bool) → truth (bit b) ≡ b
truth_back true = refl
truth_back false = refl

-- THERE AND BACK
pub module_back : (m : Module) → module_in (told_module m) ≡ m
unfolding told_module
module_back m =
    let o : Lasting = m.own in
    let lasting : lasting_in (told_module m) ≡ o = ap₂ (λ (v r : Bool). record { udid = o.udid; valid = v; address = o.address; resolved = r; home = o.home; fresh = o.fresh }) (truth_back o.valid) (truth_back o.resolved) in
    ap₂ (λ (l : Lasting) (p : Phase). at l p m.place m.pec m.given) lasting (phase_back m.phase)

-- THE PARTS OF THE STRUCT that outlast a packet, one by one
pub told_parts : (m : Module) → let h = told_module m in
    (h.udid.high ≡ m.own.udid.high) × (h.udid.low ≡ m.own.udid.low) × (h.fresh ≡ m.own.fresh) × (h.home ≡ m.own.home) × (h.address ≡ m.own.address)
    × (h.valid ≡ bit m.own.valid) × (h.resolved ≡ bit m.own.resolved)
unfolding told_module
told_parts m = (refl, refl, refl, refl, refl, refl, refl)

-- in numbers: a persistent module from a record with 41h and the flag 0
pub persistent_in_numbers : told_resumed (resumed (record { high = 0x4000000000000000; low = 1 }) 0x41 0 7)
    ≡ record { after = record { udid = record { high = 0x4000000000000000; low = 1 }; fresh = 7; home = 0x20; valid = 1; address = 0x20; resolved = 0; phase = 0; place = 0; pec = 0; given = 0 }; answer = 0 }
unfolding told_module resumed
persistent_in_numbers = refl
