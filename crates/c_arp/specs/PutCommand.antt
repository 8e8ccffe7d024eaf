-- When a command cannot be sent, in literals.
use Rattle.std.specs.Prelude.{ℕ, ◌<◌, ◌≡◌, List, length}

-- a kind that is no command, a reply of more than 255 bytes, a number that is no address
pub data Unsent (kind address : ℕ) (reply : List ℕ) : Type 0 where
  no_command_lem : 2 < kind → Unsent kind address reply
  long_reply : kind ≡ 1 → 255 < length reply → Unsent kind address reply
  no_address : kind ≡ 2 → 127 < address → Unsent kind address reply
