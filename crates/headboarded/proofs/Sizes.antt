-- Numbers that were read into a buffer lie in it, and its front has as many.
use Rattle.std.specs.Prelude.{◌≡◌, ℕ, ◌≤◌, List, length, take}
use Rattle.std.proofs.Common.{sym, ap, ◌∙◌, arith, length-take-le}
use Rattle.writing.specs.Written.{Appended}
use Rattle.writing.specs.WrittenLaws.{appended_within, length_written}

pub inside : {l xs l' : List ℕ} {to : ℕ} → Appended l 0 xs l' to → to ≤ length l'
inside {l} {xs} {l'} {to} a =
    let within : to ≤ length l = appended_within a (omega arith) in
    let same : length l' ≡ length l = ap length a.text ∙ length_written l 0 xs in
    omega arith

pub front : {l xs l' : List ℕ} {to : ℕ} → Appended l 0 xs l' to → to ≡ length (take to l')
front {l} {xs} {l'} {to} a = sym (length-take-le to l' (inside a))
