-- Each answer and each number of the decoder is given exactly in its case, and a trace of the encoder is read back whole. This holds for every
-- shape whose limits make sense: so for every row of the table, and for rows yet to come. Answers has the meaning of each answer, Numbers
-- its number; how it is computed stands in Run.
use Rattle.std.specs.Prelude.{◌≡◌, Bool, ◌↔◌, ℕ, suc, ◌+◌, ◌-◌, ◌/◌, ◌<◌, take, get_or, Ok, Err}
use Rattle.std.proofs.Math.Path.{refl, sym, ap}
use Rattle.std.proofs.Common.{◌∙◌, subst, arith}
use Rattle.std.proofs.Math.Bool.{true, false}
use mathlib.Core.List.{List, [], ◌∷◌, ◌++◌}
use Rattle.std.proofs.Math.ListN.{length}
use Rattle.trace.specs.declared.shape.Shape.{Shape}
use Rattle.trace.specs.declared.transaction.Transaction.{Transaction}
use Rattle.trace.specs.Trace.{Message, trace, Valid}
use Rattle.trace.proofs.PecPlaceLaws.{pec_found}
use Rattle.trace.specs.Sane.{Sane}
use Rattle.scan.specs.Decoded.{Decoded, refused}
use Rattle.scan.specs.declared.answer.Refusal.{Refusal}
use Rattle.scan.specs.declared.answer.Refusal.TheVariants.{NoSymbol, NotAcknowledged, PecDiffers}
use Rattle.step.specs.declared.state.Decoder.{Decoder}
use Rattle.step.specs.State.{fresh}
use Rattle.step.specs.Fits.{fits}
use Rattle.scan.specs.Refusal.{why}
use Rattle.scan.specs.Run.{run, concluded, decoded_by}
use Rattle.scan.specs.Handed.{sent_data, received_data}
use Rattle.scan.specs.NumberLaws.{done_of, refused_of}
use Rattle.scan.specs.Numbers.{refusal_number, decode_number}
use Rattle.scan.specs.Answers.{CutAt, Member, Fits, summary, Breaks, OtherPec, Because, Answers}
use Rattle.scan.proofs.RunLaws.{run_append, run_fits, run_stops}
use Rattle.scan.proofs.MemberLaws.{member_runs, fits_back, fits_runs}
use Rattle.scan.proofs.PlaceLaws.{reads_no_more, nothing_follows}
use Rattle.scan.proofs.CutLaws.{cut_number}
use Rattle.scan.proofs.DecideLaws as Decides

same_done : {t u : Transaction} → ◌≡◌ {A = Decoded} (Ok t) (Ok u) → t ≡ u
same_done e = cc

-- two messages with the same fields and data
same_message : (num : ℕ) (t u : Message) → summary num t ≡ summary num u → t.sent ≡ u.sent → t.received ≡ u.received → t ≡ u
same_message num t u e s r =
    made (ap (λ (x : Transaction). x.address.0) e) (ap (λ (x : Transaction). x.direction) e) (ap (λ (x : Transaction). x.command) e) s r
  where
    made : {a b d w c k : ℕ} {s q r l : List ℕ} → a ≡ b → d ≡ w → c ≡ k → s ≡ q → r ≡ l
        → ◌≡◌ {A = Message} (record { address = a; direction = d; command = c; sent = s; received = r }) (record { address = b; direction = w; command = k; sent = q; received = l })
    made a d c s r = cc

module _ (num : ℕ) (sh : Shape) (hs : Sane sh) (p : Bool) where
  -- the answer is what the scope says, with its data
  pub answer_holds : (tr : List ℕ) → Answers num sh p tr (decoded_by num sh p tr) (sent_data sh tr (decoded_by num sh p tr)) (received_data p tr (decoded_by num sh p tr))
  answer_holds tr = Decides.answer_holds num sh hs p tr

  -- and the scope leaves no other answer, and no other data
  pub no_other_answer : (tr : List ℕ) (a : Decoded) (s r : List ℕ) → Answers num sh p tr a s r
      → (decoded_by num sh p tr ≡ a) × (sent_data sh tr (decoded_by num sh p tr) ≡ s) × (received_data p tr (decoded_by num sh p tr) ≡ r)
  no_other_answer tr a s r h = Decides.no_other_answer num sh hs p tr a s r h

  -- each answer is given exactly in its case
  pub answer_exactly : (tr : List ℕ) (a : Decoded) → (decoded_by num sh p tr ≡ a) ↔ Answers num sh p tr a (sent_data sh tr a) (received_data p tr a)
  answer_exactly tr a = (
    λ e. subst (λ (u : Decoded). Answers num sh p tr u (sent_data sh tr u) (received_data p tr u)) e (answer_holds tr),
    λ h. (no_other_answer tr a (sent_data sh tr a) (received_data p tr a) h).0,
  )

  -- the encoder's trace of a valid message gives back every field and both lists
  pub round_trip : (t : Message) → Valid sh t
      → (decoded_by num sh p (trace sh p t) ≡ Ok (summary num t))
      × (sent_data sh (trace sh p t) (decoded_by num sh p (trace sh p t)) ≡ t.sent)
      × (received_data p (trace sh p t) (decoded_by num sh p (trace sh p t)) ≡ t.received)
  round_trip t v =
      no_other_answer (trace sh p t) (Ok (summary num t)) t.sent t.received
      (record { message = t; valid = v; is = refl; fields = refl; data_sent = refl; data_received = refl })

  -- two valid messages with the same trace are one
  pub one_message : (t u : Message) → Valid sh t → Valid sh u → trace sh p t ≡ trace sh p u → t ≡ u
  one_message t u vt vu e =
      let a = round_trip t vt in
      let b = round_trip u vu in
      same_message num t u
      (same_done (sym a.0 ∙ ap (decoded_by num sh p) e ∙ b.0))
      (sym a.1 ∙ ap (λ (x : List ℕ). sent_data sh x (decoded_by num sh p x)) e ∙ b.1)
      (sym a.2 ∙ ap (λ (x : List ℕ). received_data p x (decoded_by num sh p x)) e ∙ b.2)

  -- a trace answered 0 is the encoder's trace of a valid message, whose fields are answered, and of no other
  pub done_means : (tr : List ℕ) (t : Transaction) → decoded_by num sh p tr ≡ Ok t
      → (m : Message) × Valid sh m × (tr ≡ trace sh p m) × (t ≡ summary num m) × ((u : Message) → Valid sh u → tr ≡ trace sh p u → u ≡ m)
  done_means tr t e =
      let c = (answer_exactly tr (Ok t)).0 e in
      (c.message, c.valid, c.is, c.fields, λ u v q. one_message u c.message v c.valid (sym q ∙ c.is))

  -- by numbers: each is given exactly in its listed case, with what comes with it
  module _ (tr : List ℕ) where
    abbrev answer : Decoded
    answer = decoded_by num sh p tr

    -- a refusal by its number: exactly where its reason holds
    pub refused_exactly : (w : Refusal) (k : ℕ) → (decode_number answer ≡ (refusal_number w, k)) ↔ Because sh p tr w k
    refused_exactly w k = (
      λ e. ((answer_exactly tr (refused w k)).0 (refused_of answer w k e)).0,
      λ h. ap decode_number ((answer_exactly tr (refused w k)).1 (h, refl, refl)),
    )

    pub number_0 : (decode_number answer ≡ (0, 0)) ↔ ((m : Message) × Valid sh m × (tr ≡ trace sh p m))
    number_0 = (
      λ e. (let d = done_of answer (ap (λ (q : ℕ × ℕ). q.0) e) in let m = done_means tr d.0 d.1 in (m.0, m.1, m.2)),
      λ w. ap decode_number (ap (decoded_by num sh p) w.2 ∙ (round_trip w.0 w.1).0),
    )

    -- which byte it is, by the length of the trace alone
    pub byte_by_length : (byte : ℕ) → decode_number answer ≡ (6, byte) → byte ≡ (length tr - 4) / 2
    byte_by_length b e = cut_number sh hs p tr b ((refused_exactly NotAcknowledged b).0 e)

    -- and the symbol at that place is the PEC that differs
    pub pec_there : (place : ℕ) (o : OtherPec sh p tr place) → get_or tr place 0 ≡ o.pec
    pec_there k o =
        ap (λ (l : List ℕ). get_or l k 0) o.is ∙ pec_found sh o.message o.pec k (o.place ∙ ap length o.is)

    -- the order of the numbers. After the last STOP nothing fits, so that 8 stands at the first place that is wrong
    pub nothing_after : (place : ℕ) → place < length tr → Member sh p (take place tr) → Breaks sh p tr place
    nothing_after k h m =
        let r = member_runs sh hs p (take k tr) m in
        record {
          inside = h;
          before = fits_back sh hs p (take k tr) r.0 r.1;
          here = λ g. (let q = fits_runs sh hs p (take (suc k) tr) g in reads_no_more sh p tr k fresh r.0 h r.1 (nothing_follows sh p r.0 (get_or tr k 0) r.2) q.0 q.1);
        }

    -- 3 comes before 8 at one place; before 5 it comes by refused_exactly
    pub three_before_eight : (place : ℕ) → place < length tr → Member sh p (take place tr) → 259 < get_or tr place 0 → decode_number answer ≡ (3, place)
    three_before_eight k h m g = (refused_exactly NoSymbol k).1 (nothing_after k h m, g)

    -- 6 comes before 7: a trace that the target cut is none whose PEC differs
    pub six_before_seven : (byte place : ℕ) → CutAt sh p tr byte → OtherPec sh p tr place → ⊥
    six_before_seven b k h g =
        let e = sym (ap (λ (q : ℕ × ℕ). q.0) ((refused_exactly NotAcknowledged b).1 h)) ∙ ap (λ (q : ℕ × ℕ). q.0) ((refused_exactly PecDiffers k).1 g) in
        omega (arith, e)

  -- the first place that is wrong decides: what follows it does not matter
  stuck_at : (w : List ℕ) (x : ℕ) (d : Decoder) → run sh p fresh 0 w ≡ Ok d → (Fits sh p (w ++ x ∷ []) → ⊥) → fits sh d x ≡ false
  unfolding run
  stuck_at w x d q n = go (fits sh d x) refl
    where
      go : (b : Bool) → fits sh d x ≡ b → b ≡ false
      go false e = refl
      go true e = absurd (n (fits_back sh hs p (w ++ x ∷ []) _ (run_append sh p w (x ∷ []) fresh d 0 q ∙ run_fits sh p d _ x [] e)))

  pub rest_ignored : (w xs ys : List ℕ) (x : ℕ) → Fits sh p w → (Fits sh p (w ++ x ∷ []) → ⊥) → decoded_by num sh p (w ++ x ∷ xs) ≡ decoded_by num sh p (w ++ x ∷ ys)
  unfolding decoded_by
  rest_ignored w xs ys x f n =
      let r = fits_runs sh hs p w f in
      let s = stuck_at w x r.0 r.1 n in
      let a : (zs : List ℕ) → run sh p fresh 0 (w ++ x ∷ zs) ≡ Err (why sh r.0 (0 + length w) x) = λ zs. run_append sh p w (x ∷ zs) fresh r.0 0 r.1 ∙ run_stops sh p r.0 _ x zs s in
      ap (concluded num sh (w ++ x ∷ xs)) (a xs) ∙ sym (ap (concluded num sh (w ++ x ∷ ys)) (a ys))
