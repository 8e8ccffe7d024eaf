-- The model run for C in the parts of its struct.
use Rattle.std.specs.Prelude.{◌≡◌}
use Rattle.bindings.specs.declared.answer.ModelAnswer.{ModelAnswer}
use Rattle.c_arp.specs.declared.model.HbModel.{HbModel}

-- the answer that the struct's parts are
abbrev pub answer_in : HbModel → ModelAnswer
answer_in h = record {
  answer = h.answer;
  place = h.place;
  udid = record { high = h.udid.high; low = h.udid.low };
  bound = record { low = h.bound.low; high = h.bound.high };
  count = h.count;
  gets = h.gets;
  picked = h.picked;
}

-- a refusal's other parts
pub record ModelZero (h : HbModel) : Type 0 where
  pub count : h.count ≡ 0
  pub gets : h.gets ≡ 0
  pub picked : h.picked ≡ 0
  pub udid_high : h.udid.high ≡ 0
  pub udid_low : h.udid.low ≡ 0
  pub bound_low : h.bound.low ≡ 0
  pub bound_high : h.bound.high ≡ 0
