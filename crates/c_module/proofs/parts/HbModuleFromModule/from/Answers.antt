use Rattle.c_codec.specs.NumberLaws.{bit_from}
use Rattle.c_module.specs.Modules.{told_module}
use Rattle.c_module.proofs.parts.HbModuleFromModule.from.Goals as goal

pub returns : goal.returns
unfolding told_module
returns c =
    let own = c.args.m.own in
    rw (c.from.ensures, c.from-2.ensures, bit_from own.valid, bit_from own.resolved, c.phase_number.ensures, c.into.ensures)
