use Rattle.std.proofs.Common.{refl, sym, ◌∙◌, ap, arith, length-take-le}
use Rattle.lists.specs.EachLaws.{all_bytes}
use Rattle.udid.specs.declared.Udid.{Udid}
use Rattle.c_arp.specs.Commands.{command_of}
use Rattle.c_arp.proofs.CommandLaws.{command_refused, command_small, command_short, command_done}
use Rattle.c_arp.proofs.kinds.put_command_pairs.Goals as goal

pub returns-in_default : goal.returns-in_default
returns-in_default c =
    let a = c.args in
    let e = c.command_of-k.ensures ∙ ap (λ (u : Udid). command_of a.kind u (record { 0 = a.address })) c.into.ensures in
    let b = all_bytes a.reply.now (λ i. (c.shared_slice_known-1.given i).fits) in
    command_refused _ _ e a.reply.now b _ refl _ _ c.put_command-r.ensures _ _ c.in_default.is _ c.written.ensures

pub slice_bounds-buf-end : goal.slice_bounds-buf-end
slice_bounds-buf-end c =
    let a = c.args in
    let e = c.command_of-k.ensures ∙ ap (λ (u : Udid). command_of a.kind u (record { 0 = a.address })) c.into.ensures in
    let b = all_bytes a.reply.now (λ i. (c.shared_slice_known-1.given i).fits) in
    omega (arith, command_small _ _ e a.reply.now b _ refl _ _ c.put_command-r.ensures _ c.in-Ok.is, c.buf-2-1.given)

pub slice_bounds-put_pairs-end : goal.slice_bounds-put_pairs-end
slice_bounds-put_pairs-end c =
    let a = c.args in
    let e = c.command_of-k.ensures ∙ ap (λ (u : Udid). command_of a.kind u (record { 0 = a.address })) c.into.ensures in
    let b = all_bytes a.reply.now (λ i. (c.shared_slice_known-1.given i).fits) in
    sym (length-take-le _ _ (omega (arith, command_small _ _ e a.reply.now b _ refl _ _ c.put_command-r.ensures _ c.in-Ok.is, c.buf-2-1.given)))

pub overflow_cast-n : goal.overflow_cast-n
overflow_cast-n c =
    let a = c.args in
    let e = c.command_of-k.ensures ∙ ap (λ (u : Udid). command_of a.kind u (record { 0 = a.address })) c.into.ensures in
    let b = all_bytes a.reply.now (λ i. (c.shared_slice_known-1.given i).fits) in
    omega (arith, command_small _ _ e a.reply.now b _ refl _ _ c.put_command-r.ensures _ c.in-Ok.is)

pub returns-then-put_pairs : goal.returns-then-put_pairs
returns-then-put_pairs c =
    let a = c.args in
    let e = c.command_of-k.ensures ∙ ap (λ (u : Udid). command_of a.kind u (record { 0 = a.address })) c.into.ensures in
    let b = all_bytes a.reply.now (λ i. (c.shared_slice_known-1.given i).fits) in
    command_done _ _ e a.reply.now b _ refl _ _ c.put_command-r.ensures _ _ c.in-Ok.is _ _ c.put_pairs.ensures c.if-put_pairs.true _ c.written-then-put_pairs.ensures

pub returns : goal.returns
returns c =
    let a = c.args in
    let e = c.command_of-k.ensures ∙ ap (λ (u : Udid). command_of a.kind u (record { 0 = a.address })) c.into.ensures in
    let b = all_bytes a.reply.now (λ i. (c.shared_slice_known-1.given i).fits) in
    command_short _ _ e a.reply.now b _ refl _ _ c.put_command-r.ensures _ _ c.in-Ok.is _ _ c.put_pairs.ensures c.if-put_pairs.false _ c.written-2.ensures
