-- The model run for C: the same answer as numbers, and the same bytes in both buffers.
use Rattle.std.specs.Prelude.{ℕ, ◌≡◌, List}
use Rattle.pool.specs.declared.Pool.{Pool}
use Rattle.bus.specs.Run.{model_end}
use Rattle.bindings.specs.declared.answer.ModelAnswer.{ModelAnswer}
use Rattle.c_arp.specs.declared.model.HbModel.{HbModel}
use Rattle.c_arp.specs.Parts.{told_udid, told_pool}

abbrev pub told_model : ModelAnswer → HbModel
told_model a = record {
  answer = a.answer;
  count = a.count;
  gets = a.gets;
  picked = a.picked;
  place = a.place;
  udid = told_udid a.udid;
  bound = told_pool a.bound;
}

-- a model run over records and bindings: the answer h, and what the two hold then
pub record RanModel (occupied : Pool) (last : ℕ) (records₀ bindings₀ : List ℕ) (h : HbModel) (records bindings : List ℕ) : Type 0 where
  pub answered : h ≡ told_model (model_end occupied last records₀ bindings₀).answer
  pub records_hold : records ≡ (model_end occupied last records₀ bindings₀).records
  pub bindings_hold : bindings ≡ (model_end occupied last records₀ bindings₀).bindings
