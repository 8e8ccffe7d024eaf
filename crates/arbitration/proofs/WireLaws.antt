-- What stands on the wire: the bits of the sender that drops out against none of the others. Who still sends after n bits: those that
-- share n bits with it.
use Rattle.std.specs.Prelude.{ℕ, zero, suc, ◌≤◌, ◌<◌, ◌≡◌, refl, Bool, true, false, List, [], ◌∷◌, ◌++◌, leb, length, drop}
use Rattle.std.proofs.Common.{sym, ap, ap₂, ◌∙◌, inl, inr, arith, le-leb}
use Rattle.std.proofs.Math.Dec.{leb-zero, leb-suc-zero, leb-suc-suc}
use Rattle.std.proofs.Math.Seq.{drop-length}
use Rattle.std.proofs.lemmas.Bool.{lt-leb}
use Rattle.lists.specs.AbsurdLaws.{zero_is_one}
use Rattle.lists.specs.Choice.{pick}
use Rattle.lists.specs.ChoiceLaws.{false_not_true}
use Rattle.lists.specs.Each.{Each}
use Rattle.arbitration.specs.Among.{Among}
use Rattle.arbitration.specs.Wire.{level, staying, heard, sending}
use Rattle.arbitration.specs.DropOut.{shared, sharing, Stays, Other}

-- ---- the next bit on the wire is m's

level_one : (m : List Bool) (ts : List (List Bool)) → Each (Stays (true ∷ m)) ts → level ts ≡ true
level_one m [] h = refl
level_one m ([] ∷ ts) h = absurd (omega arith)
level_one m ((true ∷ t) ∷ ts) h = level_one m ts h.1
level_one m ((false ∷ t) ∷ ts) h = false_not_true h.0.0

level_zero : (m : List Bool) (ts : List (List Bool)) → Among (false ∷ m) ts → level ts ≡ false
level_zero m [] x' = elim x' [ ]
level_zero m (t ∷ ts) (inl e) = rw e
level_zero m ([] ∷ ts) (inr h) = level_zero m ts h
level_zero m ((true ∷ t) ∷ ts) (inr h) = level_zero m ts h
level_zero m ((false ∷ t) ∷ ts) (inr h) = refl

level_of_who_stays : (b : Bool) (m : List Bool) (ts : List (List Bool)) → Each (Stays (b ∷ m)) ts → Among (b ∷ m) ts → level ts ≡ b
level_of_who_stays true m ts h a = level_one m ts h
level_of_who_stays false m ts h a = level_zero m ts a

-- ---- those that go on, and m among them

staying_each : (b : Bool) (m : List Bool) (ts : List (List Bool)) → Each (Stays (b ∷ m)) ts → Each (Stays m) (staying b ts)
staying_each b m [] h = tt
staying_each true m ([] ∷ ts) h = absurd (omega arith)
staying_each false m ([] ∷ ts) h = absurd (omega arith)
staying_each true m ((true ∷ t) ∷ ts) h = ((h.0.0, omega arith), staying_each true m ts h.1)
staying_each true m ((false ∷ t) ∷ ts) h = false_not_true h.0.0
staying_each false m ((true ∷ t) ∷ ts) h = staying_each false m ts h.1
staying_each false m ((false ∷ t) ∷ ts) h = ((h.0.0, omega arith), staying_each false m ts h.1)

staying_among : (b : Bool) (m : List Bool) (ts : List (List Bool)) → Among (b ∷ m) ts → Among m (staying b ts)
staying_among b m [] x' = elim x' [ ]
staying_among b m ([] ∷ ts) (inl e) = zero_is_one (cc e)
staying_among true m ((true ∷ t) ∷ ts) (inl e) = inl (cc)
staying_among true m ((false ∷ t) ∷ ts) (inl e) = inl (cc)
staying_among false m ((true ∷ t) ∷ ts) (inl e) = zero_is_one (cc e)
staying_among false m ((false ∷ t) ∷ ts) (inl e) = inl (cc)
staying_among true m ([] ∷ ts) (inr h) = inr (staying_among true m ts h)
staying_among false m ([] ∷ ts) (inr h) = staying_among false m ts h
staying_among true m ((true ∷ t) ∷ ts) (inr h) = inr (staying_among true m ts h)
staying_among true m ((false ∷ t) ∷ ts) (inr h) = inr (staying_among true m ts h)
staying_among false m ((true ∷ t) ∷ ts) (inr h) = staying_among false m ts h
staying_among false m ((false ∷ t) ∷ ts) (inr h) = inr (staying_among false m ts h)

-- THE WIRE SHOWS m
pub heard_who_stays : (m : List Bool) (ts : List (List Bool)) → Each (Stays m) ts → Among m ts → heard (length m) ts ≡ m
heard_who_stays [] ts h a = refl
heard_who_stays (b ∷ m) ts h a =
    let w = level_of_who_stays b m ts h a in
    ap₂ ◌∷◌ w (ap (λ (x : Bool). heard (length m) (staying x ts)) w ∙ heard_who_stays m (staying b ts) (staying_each b m ts h) (staying_among b m ts a))

-- ---- who still sends

sharing_none : (m : List Bool) (ts : List (List Bool)) → sharing 0 m ts ≡ ts
sharing_none m [] = refl
sharing_none m (t ∷ ts) = rw (leb-zero (shared m t)) (ap (◌∷◌ t) (sharing_none m ts))

-- who sent another first bit shares none
sharing_one : (n : ℕ) (b : Bool) (m : List Bool) (ts : List (List Bool)) → Each (Stays (b ∷ m)) ts → sharing n m (staying b ts) ≡ sharing (suc n) (b ∷ m) ts
sharing_one n b m [] h = refl
sharing_one n true m ([] ∷ ts) h = absurd (omega arith)
sharing_one n false m ([] ∷ ts) h = absurd (omega arith)
sharing_one n true m ((true ∷ t) ∷ ts) h = rw (leb-suc-suc n (shared m t)) (go (leb n (shared m t)) (sharing_one n true m ts h.1))
  where
    go : (c : Bool) → sharing n m (staying true ts) ≡ sharing (suc n) (true ∷ m) ts
        → pick c (drop n t ∷ sharing n m (staying true ts)) (sharing n m (staying true ts)) ≡ pick c (drop n t ∷ sharing (suc n) (true ∷ m) ts) (sharing (suc n) (true ∷ m) ts)
    go true e = ap (◌∷◌ (drop n t)) e
    go false e = e
sharing_one n true m ((false ∷ t) ∷ ts) h = false_not_true h.0.0
sharing_one n false m ((true ∷ t) ∷ ts) h = rw (leb-suc-zero n) (sharing_one n false m ts h.1)
sharing_one n false m ((false ∷ t) ∷ ts) h = rw (leb-suc-suc n (shared m t)) (go (leb n (shared m t)) (sharing_one n false m ts h.1))
  where
    go : (c : Bool) → sharing n m (staying false ts) ≡ sharing (suc n) (false ∷ m) ts
        → pick c (drop n t ∷ sharing n m (staying false ts)) (sharing n m (staying false ts)) ≡ pick c (drop n t ∷ sharing (suc n) (false ∷ m) ts) (sharing (suc n) (false ∷ m) ts)
    go true e = ap (◌∷◌ (drop n t)) e
    go false e = e

-- WHERE ONE DROPS OUT: after n bits those still send that share n bits with m, and no others
pub sending_who_share : (n : ℕ) (m : List Bool) (ts : List (List Bool)) → Each (Stays m) ts → Among m ts → n ≤ length m → sending n ts ≡ sharing n m ts
sending_who_share zero m ts h a l = sym (sharing_none m ts)
sending_who_share (suc n) [] ts h a l = absurd (omega arith)
sending_who_share (suc n) (b ∷ m) ts h a l =
    ap (λ (w : Bool). sending n (staying w ts)) (level_of_who_stays b m ts h a)
    ∙ sending_who_share n m (staying b ts) (staying_each b m ts h) (staying_among b m ts a) (omega arith)
    ∙ sharing_one n b m ts h

-- ---- at the end one is left

pub shared_with_itself : (m : List Bool) → shared m m ≡ length m
shared_with_itself [] = refl
shared_with_itself (true ∷ m) = ap suc (shared_with_itself m)
shared_with_itself (false ∷ m) = ap suc (shared_with_itself m)

shared_less : (m t : List Bool) → Other m t → shared m t < length m
shared_less [] [] h = absurd (h.1 refl)
shared_less [] (x ∷ t) h = absurd (omega arith)
shared_less (b ∷ m) [] h = absurd (omega arith)
shared_less (true ∷ m) (true ∷ t) h = let r = shared_less m t (omega arith, λ e. h.1 (ap (◌∷◌ true) e)) in omega arith
shared_less (false ∷ m) (false ∷ t) h = let r = shared_less m t (omega arith, λ e. h.1 (ap (◌∷◌ false) e)) in omega arith
shared_less (true ∷ m) (false ∷ t) h = omega arith
shared_less (false ∷ m) (true ∷ t) h = omega arith

others_out : (m : List Bool) (ts us : List (List Bool)) → Each (Other m) ts → sharing (length m) m (ts ++ us) ≡ sharing (length m) m us
others_out m [] us h = refl
others_out m (t ∷ ts) us h = rw (lt-leb (length m) (shared m t) (shared_less m t h.0)) (others_out m ts us h.1)

-- after its last bit m one_left_sending still sends, where nobody else sends the same
pub one_left_sending : (m : List Bool) (us vs : List (List Bool)) → Each (Stays m) (us ++ (m ∷ vs)) → Each (Other m) us → Each (Other m) vs → sending (length m) (us ++ (m ∷ vs)) ≡ [] ∷ []
one_left_sending m us vs h k l =
    sending_who_share (length m) m (us ++ (m ∷ vs)) h (inside us) (omega arith)
    ∙ others_out m us (m ∷ vs) k
    ∙ rw (le-leb (length m) (shared m m) (omega (arith, shared_with_itself m)), drop-length m) (ap (◌∷◌ []) (nobody vs l))
  where
    inside : (ts : List (List Bool)) → Among m (ts ++ (m ∷ vs))
    inside [] = inl refl
    inside (t ∷ ts) = inr (inside ts)

    nobody : (ts : List (List Bool)) → Each (Other m) ts → sharing (length m) m ts ≡ []
    nobody [] g = refl
    nobody (t ∷ ts) g = rw (lt-leb (length m) (shared m t) (shared_less m t g.0)) (nobody ts g.1)
