-- A line that asks for a module gets one: what it says is refused where the line is read, or not at all.
use Rattle.std.specs.Prelude.{ℕ, ◌%◌, ◌≡◌, refl, Bool, true, false, List, Result, Ok, Err, ltb, eqb}
use Rattle.lists.specs.Choice.{pick, and, or, not}
use Rattle.lists.specs.ChoiceLaws.{false_not_true}
use Rattle.udid.specs.Udids.{is_fixed}
use Rattle.module.specs.State.{silent_in}
use Rattle.module.specs.Resume.{recorded, resumed}
use Rattle.module.specs.declared.resume.RecordError.{RecordError}
use Rattle.module.specs.declared.resume.RecordError.TheVariants.{Malformed, NoHome}
use Rattle.requests.specs.Requests.{is_module_byte, request_of}
use Rattle.requests.specs.ModuleLaws.{is_module, module_asked}
use Rattle.requests.specs.declared.request.Record.{Record}
use Rattle.requests.specs.declared.request.Request.TheVariants.{Module}

ready_by : {M : Type 0} (even fixed high : Bool) (r : Result M RecordError) → and (and (not even) (not fixed)) (not high) ≡ true → pick (or even high) (Err Malformed) (pick fixed (Err NoHome) r) ≡ r
ready_by false false false r e = refl
ready_by true fixed high r e = absurd (false_not_true e)
ready_by false true high r e = absurd (false_not_true e)
ready_by false false true r e = absurd (false_not_true e)

is_ready : (t : Record) (f : ℕ) → is_module t ≡ true → resumed t.udid t.byte t.flag f ≡ Ok (silent_in (recorded t.udid t.byte t.flag f))
unfolding resumed is_module_byte
is_ready t f e =
    ready_by (eqb (t.byte % 2) 0) (and (is_fixed t.udid) (eqb t.byte 0xFF)) (ltb 1 t.flag) (Ok (silent_in (recorded t.udid t.byte t.flag f))) e

-- the module of the record, with these bytes for its next reset
pub asked_is_ready : (line : List ℕ) (t : Record) (f : ℕ) → request_of line ≡ Ok (Module t f)
    → resumed t.udid t.byte t.flag f ≡ Ok (silent_in (recorded t.udid t.byte t.flag f))
asked_is_ready line t f e = is_ready t f (module_asked line t f e)
