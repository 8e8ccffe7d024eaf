use Rattle.std.proofs.Common.{◌<◌, ◌≤◌, ◌∙◌, arith, rules, lt-ltb, le-ltb}
use Rattle.arbitration.proofs.WinLaws.{drop_out_test_below}
use Rattle.arbitration.proofs.win.beats.Goals as goal

pub returns-in-0-to-63 : goal.returns-in-0-to-63
returns-in-0-to-63 c =
    let s = c.args in
    let h : c.drop_out.result < 64 = omega arith in
    let l : c.drop_out.result ≤ 127 = omega arith in
    c.is_zero.ensures ∙ (simp (← c.drop_out.ensures, le-ltb _ _ l, lt-ltb _ _ h) at (drop_out_test_below s.a s.b (record { high = search rules; low = search rules }) (record { high = search rules; low = search rules })))

pub returns-in-64-to-127 : goal.returns-in-64-to-127
returns-in-64-to-127 c =
    let s = c.args in
    let h : 64 ≤ c.drop_out.result = omega arith in
    let l : c.drop_out.result ≤ 127 = omega arith in
    c.is_zero-in-64-to-127.ensures ∙ (simp (← c.drop_out.ensures, le-ltb _ _ l, le-ltb _ _ h) at (drop_out_test_below s.a s.b (record { high = search rules; low = search rules }) (record { high = search rules; low = search rules })))

pub returns-in_default : goal.returns-in_default
returns-in_default c =
    let s = c.args in
    let l : 127 < c.drop_out.result = omega arith in
    simp (← c.drop_out.ensures, lt-ltb _ _ l) at (drop_out_test_below s.a s.b (record { high = search rules; low = search rules }) (record { high = search rules; low = search rules }))
