-- A PEC THAT DIFFERS, after a command that takes effect with its PEC: every byte before it gets ACK, it gets NACK, and nothing changes, whatever follows.
use Rattle.std.specs.Prelude.{ℕ, zero, suc, ◌+◌, ◌*◌, ◌/◌, ◌%◌, ◌<◌, ◌≤◌, ◌≡◌, Bool, true, false, ◌⊎◌, List, [], ◌∷◌, ◌++◌, get_or, drop}
use Rattle.std.proofs.Math.Path.{refl, ap}
use Rattle.std.proofs.Common.{sym, ap₂, subst, ◌∙◌, inl, inr, arith, add-one, drop_of_length-le, drop-cons, lt-ltb, le-ltb, eq-eqb, ne_eqb}
use Rattle.lists.specs.Choice.{pick}
use Rattle.pec.specs.Pec.{pec_step, pec_from, pec_of}
use Rattle.udid.specs.Bytes.{udid_bytes}
use Rattle.udid.proofs.UdidLaws.{length_udid}
use Rattle.module.specs.declared.state.Phase.TheVariants.{Command, Identifier, Given, PreparePec, ResetPec, AssignPec}
use Rattle.module.specs.declared.state.Lasting.{Lasting}
use Rattle.module.specs.declared.state.Module.{Module}
use Rattle.module.specs.declared.state.Heard.{Heard}
use Rattle.module.specs.State.{at, silent_in, taken, refused}
use Rattle.module.specs.Receive.{for_write, is_own, starts, receives}
use Rattle.module.specs.Obeys.{heard_all}
use Rattle.module.proofs.ObeysLaws.{heard_cons, silent_stays, true_own}
use Rattle.module.specs.Acknowledges.{acked}
use Rattle.module.proofs.AckLaws.{acked_cons, past, identifier_step, given_step}
use Rattle.module.proofs.NackLaws.{wrong_pec}
use Rattle.module.proofs.SupplyLaws.{start_write, write_one}
use Rattle.module.specs.Packets.{Known, Reachable, PecDue}
use Rattle.module.proofs.PacketsLaws.{acked_exactly, reachable_is}

-- PEC after the default address
abbrev first : ℕ
first = pec_step 0 for_write

-- ---- from any state, a START and C2h are as after STOP

pub write_acked : (m : Module) (bs : List ℕ) → acked (starts m) (for_write ∷ bs) ≡ acked (starts (silent_in m.own)) (for_write ∷ bs)
write_acked m bs =
    let h : Heard = taken m.own Command 0 first 0 in
    acked_cons (starts m) for_write bs h (start_write m) ∙ sym (acked_cons (starts (silent_in m.own)) for_write bs h (start_write (silent_in m.own)))

pub write_heard : (m : Module) (bs : List ℕ) → heard_all (starts m) (for_write ∷ bs) ≡ heard_all (at m.own Command 0 first 0) bs
write_heard m bs = heard_cons (starts m) for_write bs ∙ ap (λ (h : Heard). heard_all h.after bs) (start_write m)

-- ---- where the PEC is due

abbrev AtPec : Lasting → ℕ → Module → Type 0
AtPec o c m = (m ≡ at o PreparePec 0 c 0) ⊎ ((m ≡ at o ResetPec 0 c 0) ⊎ ((g : ℕ) × (m ≡ at o AssignPec 0 c g)))

at_pec_refuses : (o : Lasting) (c b : ℕ) (m : Module) → AtPec o c m → (b ≡ c → ⊥) → receives m b ≡ refused o
at_pec_refuses o c b m (inl e) n = ap (λ (x : Module). receives x b) e ∙ (wrong_pec o 0 c 0 b n).0
at_pec_refuses o c b m (inr (inl e)) n = ap (λ (x : Module). receives x b) e ∙ (wrong_pec o 0 c 0 b n).1.0
at_pec_refuses o c b m (inr (inr h)) n = ap (λ (x : Module). receives x b) h.1 ∙ (wrong_pec o 0 c h.0 b n).1.1

prepare_due : (m : Module) → heard_all (starts m) (0xC2 ∷ 0x01 ∷ []) ≡ at m.own PreparePec 0 (pec_of (0xC2 ∷ 0x01 ∷ [])) 0
unfolding receives pec_from
prepare_due m = write_one m 0x01

reset_due : (m : Module) → heard_all (starts m) (0xC2 ∷ 0x02 ∷ []) ≡ at m.own ResetPec 0 (pec_of (0xC2 ∷ 0x02 ∷ [])) 0
unfolding receives pec_from
reset_due m = write_one m 0x02

directed_due : (m : Module) → Reachable m.own → heard_all (starts m) (0xC2 ∷ 2 * m.own.address ∷ []) ≡ at m.own ResetPec 0 (pec_of (0xC2 ∷ 2 * m.own.address ∷ [])) 0
unfolding receives pec_from
directed_due m h =
    let a : ℕ = m.own.address in
    let l : 0x10 ≤ a = h.1.0 in
    let e : is_own m.own (2 * a) ≡ true = true_own m.own (2 * a) ((reachable_is m.own).1 h) refl in
    write_one m (2 * a)
    ∙ rw (ne_eqb (2 * a) 0x01 (λ f. omega arith), ne_eqb (2 * a) 0x02 (λ f. omega arith), ne_eqb (2 * a) 0x03 (λ f. omega arith), ne_eqb (2 * a) 0x04 (λ f. omega arith), e, ne_eqb (2 * a % 2) 1 (λ f. omega arith))

-- the identifier past place k, and the address byte x
module _ (o : Lasting) (x : ℕ) where
  abbrev us : List ℕ
  us = udid_bytes o.udid

  pec_cons : (c b : ℕ) (l : List ℕ) → pec_from c (b ∷ l) ≡ pec_from (pec_step c b) l
  unfolding pec_from
  pec_cons c b l = refl

  given_due : (c : ℕ) → heard_all (at o Given 0 c 0) (x ∷ []) ≡ at o AssignPec 0 (pec_from c (x ∷ [])) (x / 2)
  unfolding heard_all pec_from
  given_due c = ap (λ (h : Heard). h.after) (given_step o c x)

  past_last : (k c : ℕ) → 15 ≤ k → past o k c ≡ at o Given 0 c 0
  unfolding past
  past_last k c h = rw (le-ltb k 15 h)

  past_more : (k c : ℕ) → k < 15 → past o k c ≡ at o Identifier (k + 1) c 0
  unfolding past
  past_more k c h = rw (lt-ltb k 15 h)

  own_byte : (k c : ℕ) → k < 16 → receives (at o Identifier k c 0) (get_or us k 0) ≡ record { after = past o k (pec_step c (get_or us k 0)); ack = true }
  own_byte k c h =
      identifier_step o k c (get_or us k 0) h
      ∙ ap (λ (t : Bool). pick {A = Heard} t (record { after = past o k (pec_step c (get_or us k 0)); ack = true }) (refused o)) (eq-eqb (get_or us k 0) (get_or us k 0) refl)

  past_due : (n k c : ℕ) → k + suc n ≡ 16 → heard_all (past o k c) (drop (k + 1) us ++ (x ∷ [])) ≡ at o AssignPec 0 (pec_from c (drop (k + 1) us ++ (x ∷ []))) (x / 2)
  past_due zero k c e =
      let d : drop (k + 1) us ≡ [] = drop_of_length-le us {i = k + 1} (omega (arith, length_udid o.udid)) in
      ap₂ (λ (m : Module) (l : List ℕ). heard_all m (l ++ (x ∷ []))) (past_last k c (omega arith)) d
      ∙ given_due c
      ∙ ap (λ (l : List ℕ). at o AssignPec 0 (pec_from c (l ++ (x ∷ []))) (x / 2)) (sym d)
  past_due (suc n) k c e =
      let j : ℕ = k + 1 in
      let b : ℕ = get_or us j 0 in
      let d : drop j us ≡ b ∷ drop (j + 1) us = rw (add-one j) (drop-cons us j 0 (omega (arith, length_udid o.udid))) in
      ap₂ (λ (m : Module) (l : List ℕ). heard_all m (l ++ (x ∷ []))) (past_more k c (omega arith)) d
      ∙ heard_cons (at o Identifier j c 0) b (drop (j + 1) us ++ (x ∷ []))
      ∙ ap (λ (h : Heard). heard_all h.after (drop (j + 1) us ++ (x ∷ []))) (own_byte j c (omega arith))
      ∙ past_due n j (pec_step c b) (omega arith)
      ∙ ap (λ (p : ℕ). at o AssignPec 0 p (x / 2)) (sym (pec_cons c b (drop (j + 1) us ++ (x ∷ []))))
      ∙ ap (λ (l : List ℕ). at o AssignPec 0 (pec_from c (l ++ (x ∷ []))) (x / 2)) (sym d)

  identifier_due : (c : ℕ) → heard_all (at o Identifier 0 c 0) (us ++ (x ∷ [])) ≡ at o AssignPec 0 (pec_from c (us ++ (x ∷ []))) (x / 2)
  identifier_due c =
      let b : ℕ = get_or us 0 0 in
      let d : us ≡ b ∷ drop 1 us = drop-cons us 0 0 (omega (arith, length_udid o.udid)) in
      ap (λ (l : List ℕ). heard_all (at o Identifier 0 c 0) (l ++ (x ∷ []))) d
      ∙ heard_cons (at o Identifier 0 c 0) b (drop 1 us ++ (x ∷ []))
      ∙ ap (λ (h : Heard). heard_all h.after (drop 1 us ++ (x ∷ []))) (own_byte 0 c (omega arith))
      ∙ past_due 15 0 (pec_step c b) (omega arith)
      ∙ ap (λ (p : ℕ). at o AssignPec 0 p (x / 2)) (sym (pec_cons c b (drop 1 us ++ (x ∷ []))))
      ∙ ap (λ (l : List ℕ). at o AssignPec 0 (pec_from c (l ++ (x ∷ []))) (x / 2)) (sym d)

assign_due : (m : Module) (x : ℕ) → let xs : List ℕ = 0xC2 ∷ 0x04 ∷ 17 ∷ (udid_bytes m.own.udid ++ (x ∷ [])) in heard_all (starts m) xs ≡ at m.own AssignPec 0 (pec_of xs) (x / 2)
unfolding heard_all receives pec_from
assign_due m x = write_heard m (0x04 ∷ 17 ∷ (udid_bytes m.own.udid ++ (x ∷ []))) ∙ identifier_due m.own x (pec_step (pec_step first 0x04) 17)

pec_is_due : (m : Module) (xs : List ℕ) → PecDue m.own xs → AtPec m.own (pec_of xs) (heard_all (starts m) xs)
pec_is_due m xs (inl e) = subst (λ (l : List ℕ). AtPec m.own (pec_of l) (heard_all (starts m) l)) (sym e) (inl (prepare_due m))
pec_is_due m xs (inr (inl e)) = subst (λ (l : List ℕ). AtPec m.own (pec_of l) (heard_all (starts m) l)) (sym e) (inr (inl (reset_due m)))
pec_is_due m xs (inr (inr (inl h))) = subst (λ (l : List ℕ). AtPec m.own (pec_of l) (heard_all (starts m) l)) (sym h.1) (inr (inl (directed_due m h.0)))
pec_is_due m xs (inr (inr (inr h))) = subst (λ (l : List ℕ). AtPec m.own (pec_of l) (heard_all (starts m) l)) (sym h.1) (inr (inr (h.0 / 2, assign_due m h.0)))

-- ---- the bytes before it get ACK

due_known : (o : Lasting) (xs : List ℕ) → PecDue o xs → Known o xs
due_known o xs (inl e) = inl (pec_of xs ∷ [], ap (λ (l : List ℕ). l ++ (pec_of l ∷ [])) (sym e))
due_known o xs (inr (inl e)) = inr (inl (pec_of xs ∷ [], ap (λ (l : List ℕ). l ++ (pec_of l ∷ [])) (sym e)))
due_known o xs (inr (inr (inl h))) = inr (inr (inr (inr (h.0, inl (pec_of xs ∷ [], ap (λ (l : List ℕ). l ++ (pec_of l ∷ [])) (sym h.1))))))
due_known o xs (inr (inr (inr h))) = inr (inr (inr (inl (h.0, (pec_of xs ∷ [], ap (λ (l : List ℕ). l ++ (pec_of l ∷ [])) (sym h.1))))))

-- each of them begins with C2h
due_write : (o : Lasting) (xs : List ℕ) → PecDue o xs → (ys : List ℕ) × (xs ≡ 0xC2 ∷ ys)
due_write o xs (inl e) = (0x01 ∷ [], e)
due_write o xs (inr (inl e)) = (0x02 ∷ [], e)
due_write o xs (inr (inr (inl h))) = (2 * o.address ∷ [], h.1)
due_write o xs (inr (inr (inr h))) = (0x04 ∷ 17 ∷ (udid_bytes o.udid ++ (h.0 ∷ [])), h.1)

pub due_acked : (m : Module) (xs : List ℕ) → PecDue m.own xs → acked (starts m) xs ≡ true
due_acked m xs d =
    let w = due_write m.own xs d in
    ap (acked (starts m)) w.1 ∙ write_acked m w.0 ∙ ap (acked (starts (silent_in m.own))) (sym w.1) ∙ (acked_exactly m.own xs).1 (due_known m.own xs d)

-- ---- NACK, and nothing changes

heard_append : (m : Module) (xs ys : List ℕ) → heard_all m (xs ++ ys) ≡ heard_all (heard_all m xs) ys
unfolding heard_all
heard_append m [] ys = refl
heard_append m (x ∷ xs) ys = heard_append (receives m x).after xs ys

pub differing_pec : (m : Module) (xs : List ℕ) (b : ℕ) → PecDue m.own xs → (b ≡ pec_of xs → ⊥)
    → ((receives (heard_all (starts m) xs) b).ack ≡ false) × ((rest : List ℕ) → heard_all (starts m) (xs ++ (b ∷ rest)) ≡ silent_in m.own)
differing_pec m xs b d n =
    let r : receives (heard_all (starts m) xs) b ≡ refused m.own = at_pec_refuses m.own (pec_of xs) b (heard_all (starts m) xs) (pec_is_due m xs d) n in (
      ap (λ (h : Heard). h.ack) r,
      λ rest. heard_append (starts m) xs (b ∷ rest) ∙ heard_cons (heard_all (starts m) xs) b rest ∙ ap (λ (h : Heard). heard_all h.after rest) r ∙ silent_stays m.own rest,
    )
