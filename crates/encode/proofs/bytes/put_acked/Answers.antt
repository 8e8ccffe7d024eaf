use Rattle.std.proofs.Common.{rules, refl, ◌∙◌, ap, List, ◌++◌, ℕ, arith, take, length-set, take_all, length-take-le}
use Rattle.trace.specs.Trace.{acked}
use Rattle.lists.specs.Onto.{onto}
use Rattle.encode.proofs.WriterLaws.{byte_below_65536, acked_turn}
use Rattle.lists.specs.OntoLaws.{onto_front}
use Rattle.encode.proofs.bytes.put_acked.Goals as goal

pub loop-i-init : goal.loop-i-init
loop-i-init c = (search rules, omega arith, refl, onto_front c.args.out.now c.args.at (omega arith))

pub bounds-s-i : goal.bounds-s-i
bounds-s-i c = omega arith

pub overflow_cast-out : goal.overflow_cast-out
overflow_cast-out c = record { fits = byte_below_65536 _ (c.shared_slice_known-1.given _).fits }

pub offset_bounds-out-j : goal.offset_bounds-out-j
offset_bounds-out-j c = omega arith

pub bounds-out-j : goal.bounds-out-j
bounds-out-j c = omega arith

pub overflow_add-out : goal.overflow_add-out
overflow_add-out c = omega arith

pub offset_bounds-out-j-in-loop-i : goal.offset_bounds-out-j-in-loop-i
offset_bounds-out-j-in-loop-i c = omega arith

pub bounds-out-j-in-loop-i : goal.bounds-out-j-in-loop-i
bounds-out-j-in-loop-i c = simp length-set (omega arith)

pub overflow_add-j : goal.overflow_add-j
overflow_add-j c = omega arith

pub overflow_add-i : goal.overflow_add-i
overflow_add-i c = omega arith

pub loop-i-smaller : goal.loop-i-smaller
loop-i-smaller c = omega arith

pub loop-i-preserved : goal.loop-i-preserved
loop-i-preserved c =
    let l = c.loop-i in
    let a = c.args in (
      omega arith,
      omega arith,
      simp length-set l.invariant.2,
      rw l.invariant.3
          (acked_turn (take a.at a.out.now) a.s.now a.out.now l.i a.at l.j (length-take-le a.at a.out.now (omega arith))
          c.loop-i-test.true c.requires l.invariant.1),
    )

pub shape_of-out : goal.shape_of-out
shape_of-out c = c.loop-i.invariant.2

pub returns : goal.returns
returns c =
    let l = c.loop-i in
    let a = c.args in
    (omega arith, l.invariant.3 ∙ ap (λ (t : List ℕ). onto (take a.at a.out.now ++ acked t) a.out.now) (take_all l.i a.s.now c.loop-i-test.false))
