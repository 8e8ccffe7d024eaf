-- The model run by its cases, and that it has one answer.
use Rattle.std.specs.Prelude.{ℕ, ◌≤◌, ◌<◌, ◌≡◌, refl, List, length, Ok, Err}
use Rattle.std.proofs.Common.{sym, subst, arith, lt-ltb, le-ltb}
use Rattle.lists.specs.UniqueLaws.{one_answer}
use Rattle.pool.specs.Start.{barred_pool}
use Rattle.pool.specs.declared.Pool.{Pool}
use Rattle.targets.specs.Records.{targets_of}
use Rattle.targets.specs.Refusals.{checked_list}
use Rattle.targets.specs.Checked.{Checked}
use Rattle.targets.specs.Numbers.{error_number, error_place}
use Rattle.rule.specs.Bus.{pass}
use Rattle.bus.specs.Run.{ModelEnd, Leaves, refused_end, ended_end, end_checked, run_end, model_end, Refused}
use Rattle.report.specs.Report.{refused_answer}
use Rattle.bindings.specs.declared.answer.ModelAnswer.{ModelAnswer}

module _ (occupied : Pool) (last : ℕ) (s b : List ℕ) where
  -- 2
  pub end_short : length b < 2048 → run_end occupied last s b ≡ refused_end 2 0 s b
  unfolding run_end
  end_short h = rw (lt-ltb (length b) 2048 h)

  -- 9 to 12, or a pass
  pub end_checked_lem : (r : Checked) → 2048 ≤ length b → checked_list (barred_pool occupied) s ≡ r → run_end occupied last s b ≡ end_checked r occupied last s b
  unfolding run_end
  end_checked_lem r h e = rw (le-ltb (length b) 2048 h, e)

  -- ---- what the code answers in each case

  refused_leaves : (n i : ℕ) (r : ModelAnswer) → run_end occupied last s b ≡ refused_end n i s b → r ≡ refused_answer n i → Leaves (run_end occupied last s b) r s b
  refused_leaves n i r e q = subst (λ (x : ModelEnd). Leaves x r s b) (sym e) (record { answered = q; records_hold = refl; bindings_hold = refl })

  pub leaves_short : (r : ModelAnswer) → length b < 2048 → r ≡ refused_answer 2 0 → Leaves (run_end occupied last s b) r s b
  leaves_short r h q = refused_leaves 2 0 r (end_short h) q

  pub leaves_refused : (k : Checked) (r : ModelAnswer) → 2048 ≤ length b → checked_list (barred_pool occupied) s ≡ k → Refused k r → Leaves (run_end occupied last s b) r s b
  leaves_refused (Ok tt) r h e q = absurd q
  leaves_refused (Err k) r h e q = refused_leaves (error_number k) (error_place k) r (end_checked_lem (Err k) h e) q

  pub leaves_run : (r : ModelAnswer) (s' b' : List ℕ) → 2048 ≤ length b → checked_list (barred_pool occupied) s ≡ Ok tt → Leaves (ended_end (pass occupied last (targets_of s)) s b) r s' b'
      → Leaves (run_end occupied last s b) r s' b'
  leaves_run r s' b' h e v = subst (λ (x : ModelEnd). Leaves x r s' b') (sym (end_checked_lem (Ok tt) h e)) v

  -- ---- the last pick comes first

  pub end_forbidden : 127 < last → model_end occupied last s b ≡ refused_end 1 0 s b
  unfolding model_end
  end_forbidden h = rw (lt-ltb 127 last h)

  pub end_going : last < 128 → model_end occupied last s b ≡ run_end occupied last s b
  unfolding model_end
  end_going h = rw (le-ltb 127 last (omega arith))

  pub leaves_forbidden : (r : ModelAnswer) → 127 < last → r ≡ refused_answer 1 0 → Leaves (model_end occupied last s b) r s b
  leaves_forbidden r h q = subst (λ (x : ModelEnd). Leaves x r s b) (sym (end_forbidden h)) (record { answered = q; records_hold = refl; bindings_hold = refl })

  pub leaves_going : (r : ModelAnswer) (s' b' : List ℕ) → last < 128 → Leaves (run_end occupied last s b) r s' b' → Leaves (model_end occupied last s b) r s' b'
  leaves_going r s' b' h v = subst (λ (x : ModelEnd). Leaves x r s' b') (sym (end_going h)) v

-- ---- one answer, one content of the records, one of the binding buffer

pub one_model : (occupied : Pool) (last : ℕ) (s b : List ℕ) (r q : ModelAnswer) (s' t' b' c' : List ℕ) → Leaves (model_end occupied last s b) r s' b' → Leaves (model_end occupied last s b) q t' c'
    → (r ≡ q) × (s' ≡ t') × (b' ≡ c')
one_model occupied last s b r q s' t' b' c' v w =
    (one_answer v.answered w.answered, one_answer v.records_hold w.records_hold, one_answer v.bindings_hold w.bindings_hold)
