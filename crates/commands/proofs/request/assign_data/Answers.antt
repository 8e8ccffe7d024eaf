use Rattle.std.proofs.Common.{ap, ◌∙◌, ℕ, [], ◌∷◌, ◌++◌}
use Rattle.udid.specs.Bytes.{udid_bytes}
use Rattle.commands.proofs.Requests.{udid_and_byte_written}
use Rattle.commands.proofs.request.assign_data.Goals as goal

pub returns : goal.returns
returns c = let s = c.args in udid_and_byte_written s.u _ _ c.put_bytes.ensures ∙ ap (λ (w : ℕ). udid_bytes s.u ++ (w ∷ [])) c.for_write-w.ensures
