-- Which bytes a module acknowledges, said of the bytes that follow a START: those, and only those, that with all before them are the
-- beginning of a command that it knows.
use Rattle.std.specs.Prelude.{ℕ, ◌+◌, ◌*◌, Bool, true, List, [], ◌∷◌, get_or}
use Rattle.lists.specs.Choice.{and, or}
use Rattle.module.specs.declared.state.Lasting.{Lasting}
use Rattle.module.specs.declared.state.Module.{Module}
use Rattle.module.specs.Receive.{for_write, receives}
use Rattle.module.specs.Obeys.{begins, prepare_order, reset_order, directed_reset, assign_order, is_reachable}

-- every one of the bytes gets ACK
unfoldable pub acked : Module → List ℕ → Bool
acked m [] = true
acked m (b ∷ bs) = and (receives m b).ack (acked (receives m b).after bs)

-- Get UDID up to its repeated START
abbrev pub get_order : ℕ → List ℕ
get_order k = for_write ∷ k ∷ []

-- the bytes are the beginning of one of the six, or one of them whole; the address in Assign Address may be any
unfoldable pub known : Lasting → List ℕ → Bool
known o bs =
    or (begins bs prepare_order)
    (or (begins bs reset_order)
    (or (begins bs (get_order 0x03))
    (or (begins bs (assign_order o.udid (get_or bs 19 0)))
    (and (is_reachable o) (or (begins bs (directed_reset o.address)) (begins bs (get_order (2 * o.address + 1))))))))
