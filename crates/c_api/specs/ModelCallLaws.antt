-- What a call of hb_run_model gives, in the scope's numbers and in the parts of the struct of include/headboarded.h.
use Rattle.std.specs.Prelude.{◌≡◌, List, [], ◌∷◌, ◌++◌, ◌↔◌, ℕ, ◌+◌, ◌/◌, ◌^◌, ◌≤◌, ◌<◌, length}
use Rattle.std.proofs.Common.{sym, ap, ◌∙◌}
use Rattle.std.proofs.Math.Logic.Iff.{trans as iff_trans, symm as iff_symm}
use Rattle.lists.specs.Each.{Bytes}
use Rattle.pool.specs.declared.Pool.{Pool}
use Rattle.pool.specs.Start.{starting_pool, barred_pool}
use Rattle.targets.specs.ByteCases.{EvenOrFlag, SameAsEarlier, FixedOnTaken}
use Rattle.targets.specs.Cases.{LengthIsBad, NoneOf, FirstOf}
use Rattle.targets.specs.Records.{targets_of}
use Rattle.rule.specs.PlainRule.{ruled}
use Rattle.bus.specs.RefusalLaws.{model_1, model_2, model_9, model_10, model_11, model_12, model_untouched}
use Rattle.bus.specs.Run.{Leaves, model_end}
use Rattle.bindings.specs.declared.answer.ModelAnswer.{ModelAnswer}
use Rattle.c_arp.specs.declared.model.HbModel.{HbModel}
use Rattle.c_arp.specs.declared.parts.HbPool.{HbPool}
use Rattle.c_arp.specs.Parts.{pool_in}
use Rattle.c_arp.specs.Model.{told_model, RanModel}
use Rattle.promises.specs.Demands.{Meets}
use Rattle.promises.specs.DemandsLaws.{demand_3}
use Rattle.promises.proofs.MarkedLaws.{marked}
use Rattle.c_codec.specs.DecodedLaws.{pair_parts}
use Rattle.c_arp.specs.ModelParts.{answer_in, ModelZero}

-- a call with addresses that are given as occupied, a last pick, records s and a binding buffer b
module _ (given : HbPool) (last : ℕ) (s b : List ℕ) (h : HbModel) (s' b' : List ℕ) (v : RanModel (pool_in given) last s b h s' b') where
  abbrev occupied : Pool
  occupied = record { low = given.low; high = given.high }

  -- what run_model's contract says, so that every theorem on it holds of this call: Checks and Demand3 of the page
  pub hb_model_leaves : Leaves (model_end occupied last s b) (answer_in h) s' b'
  hb_model_leaves = record { answered = ap answer_in v.answered; records_hold = v.records_hold; bindings_hold = v.bindings_hold }

  -- each number, with its record: 1 for a last pick above 127, 2, 9, and 10, 11 and 12 with the first such record
  in_parts : (n i : ℕ) (P : Type 0) → (◌≡◌ {A = ℕ × ℕ} (h.answer, h.place) (n, i)) ↔ P → ((h.answer ≡ n) × (h.place ≡ i)) ↔ P
  in_parts n i P f = iff_trans (iff_symm (pair_parts h.answer h.place n i)) f

  pub hb_model_1 : ((h.answer ≡ 1) × (h.place ≡ 0)) ↔ (127 < last)
  hb_model_1 = in_parts 1 0 _ (model_1 occupied last s b (answer_in h) s' b' hb_model_leaves)

  pub hb_model_2 : ((h.answer ≡ 2) × (h.place ≡ 0)) ↔ ((last < 128) × (length b < 2048))
  hb_model_2 = in_parts 2 0 _ (model_2 occupied last s b (answer_in h) s' b' hb_model_leaves)

  module _ (bytes : Bytes s) where
    pub hb_model_9 : ((h.answer ≡ 9) × (h.place ≡ 0)) ↔ ((last < 128) × ((2048 ≤ length b) × LengthIsBad s))
    hb_model_9 = in_parts 9 0 _ (model_9 occupied last s b (answer_in h) s' b' hb_model_leaves bytes)

    pub hb_model_10 : (i : ℕ) → ((h.answer ≡ 10) × (h.place ≡ i)) ↔ ((last < 128) × ((2048 ≤ length b) × ((LengthIsBad s → ⊥) × FirstOf (EvenOrFlag s) (length s / 18) i)))
    hb_model_10 i = in_parts 10 i _ (model_10 occupied last s b (answer_in h) s' b' hb_model_leaves bytes i)

    pub hb_model_11 : (i : ℕ)
        → ((h.answer ≡ 11) × (h.place ≡ i))
        ↔ ((last < 128) × ((2048 ≤ length b) × ((LengthIsBad s → ⊥) × NoneOf (EvenOrFlag s) (length s / 18) × FirstOf (SameAsEarlier s) (length s / 18) i)))
    hb_model_11 i = in_parts 11 i _ (model_11 occupied last s b (answer_in h) s' b' hb_model_leaves bytes i)

    pub hb_model_12 : (i : ℕ)
        → ((h.answer ≡ 12) × (h.place ≡ i))
        ↔ ((last < 128) × ((2048 ≤ length b)
        × ((LengthIsBad s → ⊥) × NoneOf (EvenOrFlag s) (length s / 18) × NoneOf (SameAsEarlier s) (length s / 18) × FirstOf (FixedOnTaken (barred_pool occupied) s) (length s / 18) i)))
    hb_model_12 i = in_parts 12 i _ (model_12 occupied last s b (answer_in h) s' b' hb_model_leaves bytes i)

  -- a refusal: nothing lent has changed, and every other part is zero
  pub hb_model_refusal : (1 ≤ h.answer) × (h.answer ≤ 12) → (s' ≡ s) × (b' ≡ b) × ModelZero h
  hb_model_refusal q =
      let k = model_untouched occupied last s b (answer_in h) s' b' hb_model_leaves q in (
        k.0,
        k.1,
        record {
          count = ap (λ (x : ModelAnswer). x.count) k.2;
          gets = ap (λ (x : ModelAnswer). x.gets) k.2;
          picked = ap (λ (x : ModelAnswer). x.picked) k.2;
          udid_high = ap (λ (x : ModelAnswer). x.udid.high) k.2;
          udid_low = ap (λ (x : ModelAnswer). x.udid.low) k.2;
          bound_low = ap (λ (x : ModelAnswer). x.bound.low) k.2;
          bound_high = ap (λ (x : ModelAnswer). x.bound.high) k.2;
        },
      )

  -- DEMAND 3: any other run ends as the plain rule does
  pub hb_model_meets : Bytes s → last < 128 → 2048 ≤ length b → (LengthIsBad s → ⊥) → NoneOf (EvenOrFlag s) (length s / 18) → NoneOf (SameAsEarlier s) (length s / 18)
      → NoneOf (FixedOnTaken (barred_pool occupied) s) (length s / 18)
      → let q = ruled (starting_pool occupied) last (targets_of s) in Meets occupied last s b q.given q.ending q.picked (answer_in h) s' b'
  hb_model_meets bytes = (demand_3 occupied last s b bytes (answer_in h) s' b' hb_model_leaves).meets

-- M8, never picked before: 09h, 0Dh and 20h are bound, four Get UDIDs are sent, and 0Dh was picked
pub hb_model_m8 : (b : List ℕ) → 2048 ≤ length b → (h : HbModel) (s' b' : List ℕ)
    → RanModel (pool_in (record { low = 0; high = 0 })) 127
    ((0x80 ∷ 0 ∷ 0 ∷ 0 ∷ 0 ∷ 0 ∷ 0 ∷ 0 ∷ 0 ∷ 0 ∷ 0 ∷ 0 ∷ 0 ∷ 0 ∷ 0 ∷ 1 ∷ 0xFF ∷ 0 ∷ [])
    ++ (0x00 ∷ 0 ∷ 0 ∷ 0 ∷ 0 ∷ 0 ∷ 0 ∷ 0 ∷ 0 ∷ 0 ∷ 0 ∷ 0 ∷ 0 ∷ 0 ∷ 0 ∷ 1 ∷ 0x13 ∷ 0 ∷ [])
    ++ (0x40 ∷ 0 ∷ 0 ∷ 0 ∷ 0 ∷ 0 ∷ 0 ∷ 0 ∷ 0 ∷ 0 ∷ 0 ∷ 0 ∷ 0 ∷ 0 ∷ 0 ∷ 1 ∷ 0x41 ∷ 0 ∷ []))
    b h s' b'
    → h ≡ record { answer = 0; count = 3; gets = 4; picked = 0x0D; place = 0; udid = record { high = 0; low = 0 }; bound = record { low = 2 ^ 0x09 + 2 ^ 0x0D + 2 ^ 0x20; high = 0 } }
hb_model_m8 b l h s' b' v = v.answered ∙ ap told_model (marked b l).m8.0

-- M10: all 128 are occupied, so one movable target ends the pass with 13 and its identifier; none is bound, one Get UDID is sent
pub hb_model_m10 : (b : List ℕ) → 2048 ≤ length b → (h : HbModel) (s' b' : List ℕ)
    → RanModel (pool_in (record { low = 0xFFFFFFFFFFFFFFFF; high = 0xFFFFFFFFFFFFFFFF })) 127 (0x80 ∷ 0 ∷ 0 ∷ 0 ∷ 0 ∷ 0 ∷ 0 ∷ 0 ∷ 0 ∷ 0 ∷ 0 ∷ 0 ∷ 0 ∷ 0 ∷ 0 ∷ 1 ∷ 0x41 ∷ 1 ∷ []) b h s' b'
    → h ≡ record { answer = 13; count = 0; gets = 1; picked = 127; place = 0; udid = record { high = 0x8000000000000000; low = 1 }; bound = record { low = 0; high = 0 } }
hb_model_m10 b l h s' b' v = v.answered ∙ ap told_model (marked b l).m10.0

-- one possible answer, and one content of each buffer
pub one_model : (occupied : Pool) (last : ℕ) (s b : List ℕ) (h h' : HbModel) (s₁ s₂ b₁ b₂ : List ℕ) → RanModel occupied last s b h s₁ b₁ → RanModel occupied last s b h' s₂ b₂
    → (h ≡ h') × (s₁ ≡ s₂) × (b₁ ≡ b₂)
one_model occupied last s b h h' s₁ s₂ b₁ b₂ x y =
    (x.answered ∙ sym y.answered, x.records_hold ∙ sym y.records_hold, x.bindings_hold ∙ sym y.bindings_hold)
