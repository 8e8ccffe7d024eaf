-- What the functions' proofs cite.
use Prim.Native.Nat.{ℕ}
use mathlib.Core.Path.{◌≡◌, sym, ap, ◌∙◌}
use mathlib.Core.List.{List}
use lib.ListN.{length, take, drop}
use lib.Seq.{take_at}
use Rattle.encode.specs.Encode.{Encoded}
use Rattle.std.specs.Prelude.{Ok}
use Rattle.commands.specs.Sending.{Sent}
use Rattle.commands.specs.Requests.{trace_of}
use Rattle.commands.specs.declared.command.Handed.{Handed}

-- a command that was written stands at the front
pub sent_front : (k : Handed) (reply before : List ℕ) (r : Encoded) (after : List ℕ) (n : ℕ) → Sent k reply before r after → r ≡ Ok n
    → (n ≡ length (trace_of k reply)) × (take n after ≡ trace_of k reply)
sent_front k reply before r after n s e =
    let h : n ≡ length (trace_of k reply) = same r n (length (trace_of k reply)) e s.0 in
    (h, ap (take n) s.1 ∙ take_at (trace_of k reply) (drop (length (trace_of k reply)) before) n (sym h))
  where
    same : (q : Encoded) (a b : ℕ) → q ≡ Ok a → q ≡ Ok b → a ≡ b
    same q a b x y = cc (x, y)
