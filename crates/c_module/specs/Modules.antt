-- A module as a struct for C, there and back, and what each call hands back.
use Rattle.std.specs.Prelude.{Result, Ok, Err, is_some}
use Rattle.module.specs.declared.resume.RecordError.{RecordError}
use Rattle.module.specs.declared.state.Lasting.{Lasting}
use Rattle.module.specs.declared.state.Module.{Module}
use Rattle.module.specs.declared.state.Heard.{Heard}
use Rattle.module.specs.declared.state.Supplied.{Supplied}
use Rattle.module.specs.State.{at}
use Rattle.module.specs.Resume.{resumed_number}
use Rattle.module.specs.Supply.{byte_out}
use Rattle.c_codec.specs.Numbers.{truth, bit}
use Rattle.c_arp.specs.Parts.{udid_in, told_udid}
use Rattle.c_module.specs.Phases.{phase_in, phase_number}
use Rattle.c_module.specs.declared.parts.HbModule.{HbModule}
use Rattle.c_module.specs.declared.parts.HbHeard.{HbHeard}
use Rattle.c_module.specs.declared.parts.HbSupplied.{HbSupplied}
use Rattle.c_module.specs.declared.parts.HbResumed.{HbResumed}

-- what C gave: any number but 0 is true
abbrev pub lasting_in : HbModule → Lasting
lasting_in h = record { udid = udid_in h.udid; valid = truth h.valid; address = h.address; resolved = truth h.resolved; home = h.home; fresh = h.fresh }

abbrev pub module_in : HbModule → Module
module_in h = at (lasting_in h) (phase_in h.phase) h.place h.pec h.given

-- what C is given
unfoldable pub told_module : Module → HbModule
told_module m = record {
  udid = told_udid m.own.udid;
  fresh = m.own.fresh;
  home = m.own.home;
  valid = bit m.own.valid;
  address = m.own.address;
  resolved = bit m.own.resolved;
  phase = phase_number m.phase;
  place = m.place;
  pec = m.pec;
  given = m.given;
}

abbrev pub told_heard : Heard → HbHeard
told_heard h = record { after = told_module h.after; ack = bit h.ack }

-- FFh, which holds nothing down, stands for no byte
abbrev pub told_supplied : Supplied → HbSupplied
told_supplied s = record { after = told_module s.after; drives = bit (is_some s.byte); byte = byte_out s.byte }

-- a refusal has no module: every part of it is 0
abbrev pub no_module : HbModule
no_module = record { udid = record { high = 0; low = 0 }; fresh = 0; home = 0; valid = 0; address = 0; resolved = 0; phase = 0; place = 0; pec = 0; given = 0 }

abbrev pub told_resumed : Result Module RecordError → HbResumed
told_resumed (Ok m) = record { after = told_module m; answer = resumed_number (Ok m) }
told_resumed (Err e) = record { after = no_module; answer = resumed_number (Err e) }
