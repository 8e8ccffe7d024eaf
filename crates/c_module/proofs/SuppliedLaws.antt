-- What C is given when it asks a module for a byte.
use Rattle.std.specs.Prelude.{ℕ, ◌≡◌, refl, false, Option, Some, is_some}
use Rattle.std.proofs.Common.{ap, ◌∙◌}
use Rattle.module.specs.declared.state.Module.{Module}
use Rattle.module.specs.declared.state.Supplied.{Supplied}
use Rattle.module.specs.Supply.{byte_out, supplies}
use Rattle.module.proofs.MiddleLaws.{nothing_moved}
use Rattle.c_codec.specs.Numbers.{bit}
use Rattle.c_module.specs.Modules.{told_module, told_supplied}

-- drives says whether the module has a byte, and byte is the module's
pub supplied_parts : (s : Supplied) → ((told_supplied s).after ≡ told_module s.after) × ((told_supplied s).drives ≡ bit (is_some s.byte)) × ((told_supplied s).byte ≡ byte_out s.byte)
supplied_parts s = (refl, refl, refl)

-- A MODULE WITH A BYTE: drives is 1, and it is that byte
pub byte_driven : (s : Supplied) (b : ℕ) → s.byte ≡ Some b → ((told_supplied s).drives ≡ 1) × ((told_supplied s).byte ≡ b)
byte_driven s b e = (ap (λ (o : Option ℕ). bit (is_some o)) e, ap byte_out e)

-- A MODULE WITH NOTHING TO SAY stays as it was; drives is 0, and the byte FFh, which holds nothing down
pub nothing_driven : (m : Module) → is_some (supplies m).byte ≡ false → let h = told_supplied (supplies m) in (h.after ≡ told_module m) × (h.drives ≡ 0) × (h.byte ≡ 0xFF)
nothing_driven m e =
    let (after, byte) = nothing_moved m e in
    let p = supplied_parts (supplies m) in
    (p.0 ∙ ap told_module after, p.1 ∙ ap bit e, p.2 ∙ byte)
