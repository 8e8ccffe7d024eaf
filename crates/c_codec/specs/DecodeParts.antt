-- The decoder for C in the parts of its struct: the symbols that bytes are, what a 0 gives back, and what a refusal leaves.
use Rattle.std.specs.Prelude.{◌≡◌, List, ◌++◌, ℕ, ◌+◌, ◌*◌, ◌/◌, ◌<◌, length, drop, get_or}
use Rattle.c_codec.specs.declared.answer.HbDecoded.{HbDecoded}

-- the symbols that bytes are: symbol i is byte 2 i and 256 times byte 2 i + 1; a byte after the last whole pair is not read
pub record Pairs (bytes tr : List ℕ) : Type 0 where
  pub count : length tr ≡ length bytes / 2
  pub each : (i : ℕ) → i < length bytes / 2 → get_or tr i 0 ≡ get_or bytes (2 * i) 0 + 256 * get_or bytes (2 * i + 1) 0

-- the parts of a message, in the struct and at the fronts of the two buffers, which are as they were behind
pub record GivesBack (address direction command : ℕ) (sent received sent₀ received₀ : List ℕ) (h : HbDecoded) (sent₁ received₁ : List ℕ) : Type 0 where
  pub answer : h.answer ≡ 0
  pub value : h.value ≡ 0
  pub address_is : h.address ≡ address
  pub direction_is_lem : h.direction ≡ direction
  pub command_is_lem : h.command ≡ command
  pub sent_length_lem : h.sent ≡ length sent
  pub received_length_lem : h.received ≡ length received
  pub sent_data : sent₁ ≡ sent ++ drop (length sent) sent₀
  pub received_data : received₁ ≡ received ++ drop (length received) received₀

-- every part but the number and what comes with it is zero
pub record OthersZero (h : HbDecoded) : Type 0 where
  pub address : h.address ≡ 0
  pub direction : h.direction ≡ 0
  pub command : h.command ≡ 0
  pub sent : h.sent ≡ 0
  pub received : h.received ≡ 0
