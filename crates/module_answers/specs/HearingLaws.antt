-- One byte after another: a turn, and the end.
use Rattle.std.specs.Prelude.{ℕ, suc, ◌+◌, ◌<◌, ◌≤◌, ◌≡◌, List, [], ◌++◌, length, drop, get_or}
use Rattle.std.proofs.Common.{sym, ap, drop_of_length-le, drop-cons}
use Rattle.std.proofs.Math.Numerals.{add-one}
use Rattle.module.specs.Receive.{receives}
use Rattle.module.specs.declared.state.Heard.{Heard}
use Rattle.module.specs.declared.state.Module.{Module}
use Rattle.module.specs.Obeys.{heard_all}
use Rattle.module_answers.specs.Hearings.{ack_text, acks_text}

module _ (m : Module) (s : List ℕ) (i : ℕ) where
  pub heard_on : (h : Heard) → h ≡ receives m (get_or s i 0) → i < length s → heard_all m (drop i s) ≡ heard_all h.after (drop (i + 1) s)
  unfolding heard_all
  heard_on h e l = rw (drop-cons s i 0 l, add-one i) (ap (λ (x : Heard). heard_all x.after (drop (suc i) s)) (sym e))

  pub heard_over : length s ≤ i → heard_all m (drop i s) ≡ m
  unfolding heard_all
  heard_over l = rw (drop_of_length-le s l)

  pub acks_on : (h : Heard) → h ≡ receives m (get_or s i 0) → i < length s
      → acks_text m (drop i s) ≡ ack_text h.ack ++ acks_text h.after (drop (i + 1) s)
  unfolding acks_text
  acks_on h e l = rw (drop-cons s i 0 l, add-one i) (ap (λ (x : Heard). ack_text x.ack ++ acks_text x.after (drop (suc i) s)) (sym e))

  pub acks_over : length s ≤ i → acks_text m (drop i s) ≡ []
  unfolding acks_text
  acks_over l = rw (drop_of_length-le s l)
