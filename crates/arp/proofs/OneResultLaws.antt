-- The sentences on a step leave one result: whatever two results agree with is the same for both, and every trace falls under a sentence.
use Rattle.std.specs.Prelude.{ℕ, zero, suc, ◌/◌, ◌≤◌, ◌<◌, ◌≡◌, refl, Bool, true, false, List, [], ◌∷◌, ◌⊎◌, length, get_or, drop, Option, Some, None, Ok, Err}
use Rattle.std.proofs.Common.{sym, ap, ap₂, ◌∙◌, subst, inl, inr, arith}
use Rattle.std.proofs.Math.Decide.{ℕ_discrete, dec_lt}
use Rattle.lists.specs.AbsurdLaws.{zero_is_one}
use Rattle.lists.specs.ChoiceLaws.{not_both}
use Rattle.lists.specs.Each.{Bytes}
use Rattle.wire.specs.declared.address.Address.{Address}
use Rattle.trace.specs.Shapes.{forbidden}
use Rattle.trace.specs.declared.transaction.Transaction.{Transaction}
use Rattle.scan.specs.NumberLaws.{refusal_is_not_0}
use Rattle.scan.specs.Numbers.{refusal_number, decode_number}
use Rattle.scan.specs.Decoded.{Decoded}
use Rattle.pool.specs.NextFree.{next_free, Next}
use Rattle.pool.specs.NextFreeLaws.{next_is, next_none}
use Rattle.pool.specs.Pools.{member}
use Rattle.pool.specs.Start.{starting_pool, barred_pool}
use Rattle.pool.specs.declared.Pool.{Pool}
use Rattle.udid.specs.Bytes.{udid_bytes}
use Rattle.udid.proofs.UdidLaws.{same_refl}
use Rattle.udid.specs.declared.Udid.{Udid}
use Rattle.arp.proofs.HeardLaws.{gives_exactly}
use Rattle.commands.specs.RequestLaws.{valid_get, reply_symbols}
use Rattle.hearing.specs.TraceLaws.{decoded_back, complete_get_is_its_trace, complete_get_data_fits}
use Rattle.arp.proofs.SoundLaws.{bound_to_is_bound}
use Rattle.slots.specs.Finding.{bound_to}
use Rattle.hearing.specs.Heard.{answer, received_in, is_get}
use Rattle.commands.specs.Codes.{block_read}
use Rattle.commands.specs.CommandTraces.{reply_trace, Reply}
use Rattle.arp.specs.OneStep.{Gives, Hands, Asks, Chooses, Keeps, Same, BoundAt, Unbinds, Binds, Continues, EndsWith, Replies, Alike}
use Rattle.commands.specs.Requests.{message_of}
use Rattle.slots.specs.Slots.{held_at}
use Rattle.commands.specs.declared.command.Command.TheVariants.{GetUdid, Assign}
use Rattle.commands.specs.declared.command.End.TheVariants.{NoneFree}
use Rattle.commands.specs.declared.command.Handed.{Handed}
use Rattle.commands.specs.declared.command.Handed.TheVariants.{Send, Wait}
use Rattle.slots.specs.declared.Binding.{Binding}
use Rattle.slots.specs.declared.Binding.TheVariants.{Open, Bound, Claimed, Left}
use Rattle.arp.specs.declared.state.Controller.{Controller}
use Rattle.slots.specs.declared.Slots.{Slots}
use Rattle.arp.specs.declared.state.Stepped.{Stepped}

-- ---- every trace

-- two traces are the same, or not
pub same_trace_or_not : (xs ys : List ℕ) → Dec (xs ≡ ys)
same_trace_or_not [] [] = yes refl
same_trace_or_not [] (y ∷ ys) = no (λ e. let z : ◌≡◌ {A = ℕ} 0 (suc (length ys)) = ap length e in omega arith)
same_trace_or_not (x ∷ xs) [] = no (λ e. let z : ◌≡◌ {A = ℕ} (suc (length xs)) 0 = ap length e in omega arith)
same_trace_or_not (x ∷ xs) (y ∷ ys) = go (ℕ_discrete x y) (same_trace_or_not xs ys)
  where
    go : Dec (x ≡ y) → Dec (xs ≡ ys) → Dec (x ∷ xs ≡ y ∷ ys)
    go (yes p) (yes q) = yes (ap₂ (λ (a : ℕ) (l : List ℕ). a ∷ l) p q)
    go (no p) q = no (λ e. p (ap (λ (l : List ℕ). get_or l 0 0) e))
    go (yes p) (no q) = no (λ e. q (ap (drop 1) e))

-- decode gives 6 for it, or not
pub six_or_not : (protocol : ℕ) (tr : List ℕ) → forbidden protocol true ≡ false → ((b : ℕ) × Gives protocol tr 6 b) ⊎ ((b : ℕ) → Gives protocol tr 6 b → ⊥)
six_or_not protocol tr f = go (answer protocol tr) refl
  where
    other : (d : Decoded) → answer protocol tr ≡ d → ((decode_number d).0 ≡ 6 → ⊥) → (b : ℕ) → Gives protocol tr 6 b → ⊥
    other d e n b g = n (ap (λ (x : Decoded). (decode_number x).0) (sym e) ∙ ap (λ (p : ℕ × ℕ). p.0) ((gives_exactly protocol tr 6 b f).0 g))

    go : (d : Decoded) → answer protocol tr ≡ d → ((b : ℕ) × Gives protocol tr 6 b) ⊎ ((b : ℕ) → Gives protocol tr 6 b → ⊥)
    go (Ok t) e = inr (other (Ok t) e (λ q. omega arith))
    go (Err r) e = nack (ℕ_discrete (refusal_number r.why) 6)
      where
        nack : Dec (refusal_number r.why ≡ 6) → ((b : ℕ) × Gives protocol tr 6 b) ⊎ ((b : ℕ) → Gives protocol tr 6 b → ⊥)
        nack (yes q) = inl (r.place, (gives_exactly protocol tr 6 r.place f).1 (ap decode_number e ∙ ap (λ (n : ℕ). (n, r.place)) q))
        nack (no n) = inr (other (Err r) e n)

-- and with one byte alone
pub six_once : (protocol : ℕ) (tr : List ℕ) (b c : ℕ) → forbidden protocol true ≡ false → Gives protocol tr 6 b → Gives protocol tr 6 c → b ≡ c
six_once protocol tr b c f g h = ap (λ (p : ℕ × ℕ). p.1) (sym ((gives_exactly protocol tr 6 b f).0 g) ∙ (gives_exactly protocol tr 6 c f).0 h)

-- it is Get UDID with some bytes, or not
pub reply_or_not : (s : Controller) (tr : List ℕ) → Reply tr ⊎ ((xs : List ℕ) → Bytes xs → length xs ≤ 255 → tr ≡ reply_trace xs → ⊥)
reply_or_not s tr = go (answer block_read tr) refl
  where
    -- if it is, decode answers 0 with that address and command
    is : (xs : List ℕ) → Bytes xs → length xs ≤ 255 → tr ≡ reply_trace xs → (t : Transaction) × (answer block_read tr ≡ Ok t) × (is_get t ≡ true)
    is xs h l e = (_, ap (answer block_read) (e ∙ sym (reply_symbols xs)) ∙ (decoded_back block_read (message_of (Send GetUdid) xs) (valid_get xs h l)).0, refl)

    other : (d : Decoded) → answer block_read tr ≡ d → ((decode_number d).0 ≡ 0 → ⊥) → (xs : List ℕ) → Bytes xs → length xs ≤ 255 → tr ≡ reply_trace xs → ⊥
    other d e n xs h l q = let w = is xs h l q in n (ap (λ (x : Decoded). (decode_number x).0) (sym e ∙ w.1))

    done : (t : Transaction) → answer block_read tr ≡ Ok t → (b : Bool) → is_get t ≡ b → Reply tr ⊎ ((xs : List ℕ) → Bytes xs → length xs ≤ 255 → tr ≡ reply_trace xs → ⊥)
    done t e true k = let d = complete_get_data_fits tr t e in inl (received_in block_read tr, d.0, d.1, complete_get_is_its_trace tr t e k ∙ reply_symbols (received_in block_read tr))
    done t e false k = inr (λ xs h l q. clash (is xs h l q))
      where
        clash : (t : Transaction) × (answer block_read tr ≡ Ok t) × (is_get t ≡ true) → ⊥
        clash w =
            let m : Ok t ≡ Ok w.0 = sym e ∙ w.1 in
            let j : t ≡ w.0 = cc m in
            not_both k (ap is_get j ∙ w.2)

    go : (d : Decoded) → answer block_read tr ≡ d → Reply tr ⊎ ((xs : List ℕ) → Bytes xs → length xs ≤ 255 → tr ≡ reply_trace xs → ⊥)
    go (Ok t) e = done t e (is_get t) refl
    go (Err r) e = inr (other (Err r) e (λ q. omega (arith, refusal_is_not_0 r.why)))

-- ---- what two results agree with

hands_both : (s : Controller) (r q : Stepped) (k : Handed) (n : ℕ) → Hands s r k n → Hands s q k n → r.state.picked ≡ q.state.picked → ((a : ℕ) → Same q.state r.state a) → Alike r q
hands_both s r q k n h g l e = record {
  command = h.command ∙ sym g.command;
  last = h.last ∙ sym g.last;
  gets = h.gets ∙ sym g.gets;
  occupied = h.occupied ∙ sym g.occupied;
  picked = l;
  same = e;
}

asks_both : (s : Controller) (r q : Stepped) → Asks s r → Asks s q → r.state.picked ≡ q.state.picked → ((a : ℕ) → Same q.state r.state a) → Alike r q
asks_both s r q h g p e = go (dec_lt s.gets 128)
  where
    go : Dec (s.gets < 128) → Alike r q
    go (yes l) = hands_both s r q _ _ (h.again l) (g.again l) p e
    go (no l) = hands_both s r q _ _ (h.limit (omega arith)) (g.limit (omega arith)) p e

keeps_both : (s t v : Controller) → Keeps s t → Keeps s v → (a : ℕ) → Same v t a
keeps_both s t v h g a = (
  ap (λ (x : Slots). held_at x a) (h.slots ∙ sym g.slots),
  ap (λ (p : Pool). member p a) (h.pool ∙ sym g.pool),
)

pub continues_alike : (s : Controller) (r q : Stepped) → Continues s r → Continues s q → Alike r q
continues_alike s r q h g = asks_both s r q h.0 g.0 (h.1.picked ∙ sym g.1.picked) (keeps_both s r.state q.state h.1 g.1)

pub ends_alike : (s : Controller) (r q : Stepped) (k : Handed) → EndsWith s r k → EndsWith s q k → Alike r q
ends_alike s r q k h g = hands_both s r q k s.gets h.0 g.0 (h.1.picked ∙ sym g.1.picked) (keeps_both s r.state q.state h.1 g.1)

same_both : (s t v : Controller) (a : ℕ) → Same s t a → Same s v a → Same v t a
same_both s t v a h g = (h.0 ∙ sym g.0, h.1 ∙ sym g.1)

pub binds_alike : (u : Udid) (n : ℕ) (s : Controller) (r q : Stepped) → Asks s r × Binds u n s r.state → Asks s q × Binds u n s q.state → Alike r q
binds_alike u n s r q h g = asks_both s r q h.0 g.0 (h.1.picked ∙ sym g.1.picked) (λ a. at a (ℕ_discrete a n))
  where
    held : (b : Bool) → member (barred_pool s.occupied) n ≡ b → (x : Binding) → held_at s.slots n ≡ x → held_at r.state.slots n ≡ held_at q.state.slots n
    held true e x k = h.1.barred e ∙ sym (g.1.barred e)
    held false e Open k = h.1.free e (inl k) ∙ sym (g.1.free e (inl k))
    held false e (Bound w) k = h.1.another w k ∙ sym (g.1.another w k)
    held false e Claimed k = h.1.marked k ∙ sym (g.1.marked k)
    held false e Left k = h.1.free e (inr k) ∙ sym (g.1.free e (inr k))

    at : (a : ℕ) → Dec (a ≡ n) → Same q.state r.state a
    at a (no m) = same_both s r.state q.state a (h.1.elsewhere a m) (g.1.elsewhere a m)
    at a (yes m) = subst (Same q.state r.state) (sym m) (held (member (barred_pool s.occupied) n) refl (held_at s.slots n) refl, h.1.used ∙ sym g.1.used)

-- an identifier is bound to an address first, or not
module _ (slots : Slots) (u : Udid) where
  bound_here : (a : ℕ) → Dec (held_at slots a ≡ Bound u)
  bound_here a = go (bound_to u (held_at slots a)) refl
    where
      go : (b : Bool) → bound_to u (held_at slots a) ≡ b → Dec (held_at slots a ≡ Bound u)
      go true e = yes (bound_to_is_bound u (held_at slots a) e)
      go false e = no (λ k. zero_is_one (cc (sym e ∙ ap (bound_to u) k ∙ same_refl u)))

  below : (a : ℕ) → Dec ((b : ℕ) → b < a → held_at slots b ≡ Bound u → ⊥)
  below zero = yes (λ b h k. absurd (omega arith))
  below (suc a) = go (below a) (bound_here a)
    where
      go : Dec ((b : ℕ) → b < a → held_at slots b ≡ Bound u → ⊥) → Dec (held_at slots a ≡ Bound u) → Dec ((b : ℕ) → b < suc a → held_at slots b ≡ Bound u → ⊥)
      go (no n) d = no (λ f. n (λ b h k. f b (omega arith) k))
      go (yes f) (yes e) = no (λ g. g a (omega arith) e)
      go (yes f) (no n) = yes (λ b h k. at b h k (ℕ_discrete b a))
        where
          at : (b : ℕ) → b < suc a → held_at slots b ≡ Bound u → Dec (b ≡ a) → ⊥
          at b h k (yes q) = n (ap (held_at slots) (sym q) ∙ k)
          at b h k (no q) = f b (omega arith) k

  bound_at : (a : ℕ) → Dec (BoundAt slots u a)
  bound_at a = go (bound_here a) (below a)
    where
      go : Dec (held_at slots a ≡ Bound u) → Dec ((b : ℕ) → b < a → held_at slots b ≡ Bound u → ⊥) → Dec (BoundAt slots u a)
      go (yes e) (yes f) = yes (record { here = e; lowest = f })
      go (no n) f = no (λ w. n w.here)
      go (yes e) (no n) = no (λ w. n w.lowest)

unbinds_both : (u : Udid) (s t v : Controller) → Unbinds u s t → Unbinds u s v → (a : ℕ) → Same v t a
unbinds_both u s t v h g a = go (bound_at s.slots u a)
  where
    used : BoundAt s.slots u a → (b : Bool) → member (starting_pool s.occupied) a ≡ b → member t.pool a ≡ member v.pool a
    used w true e = h.stays a w e ∙ sym (g.stays a w e)
    used w false e = h.out a w e ∙ sym (g.out a w e)

    go : Dec (BoundAt s.slots u a) → Same v t a
    go (yes w) = (h.there a w ∙ sym (g.there a w), used w (member (starting_pool s.occupied) a) refl)
    go (no n) = same_both s t v a (h.elsewhere a n) (g.elsewhere a n)

-- one choice and one last pick, where the pools have the same addresses
chooses_both : (p o : Pool) (last : ℕ) (u : Udid) (b : ℕ) (k m : Handed) (x y : ℕ) → last < 128 → ((a : ℕ) → member p a ≡ member o a)
    → Chooses p last u b k x → Chooses o last u b m y → (k ≡ m) × (x ≡ y)
chooses_both p o last u b k m x y small e h g = go (ℕ_discrete b 0xFF) (dec_lt (get_or (udid_bytes u) 0 0) 64) (member p (b / 2)) refl
  where
    To_pick : Pool → Type 0
    To_pick z = (b ≡ 0xFF) ⊎ ((64 ≤ get_or (udid_bytes u) 0 0) × (member z (b / 2) ≡ true))

    one : {l n : Handed} {i j : ℕ} → (k ≡ l) × (x ≡ i) → (m ≡ n) × (y ≡ j) → l ≡ n → i ≡ j → (k ≡ m) × (x ≡ y)
    one v w q r = (v.0 ∙ q ∙ sym w.0, v.1 ∙ r ∙ sym w.1)

    pick_one : To_pick p → To_pick o → (f : Option Address) → next_free p last ≡ f → (k ≡ m) × (x ≡ y)
    pick_one v w (Some a) q = one (h.picked v a.0 l) (g.picked w a.0 there) refl refl
      where
        l : Next p last a.0
        l = (next_is p last a.0 small).0 q

        there : Next o last a.0
        there = record { small = l.small; free = sym (e a.0) ∙ l.free; nearest = λ c n i. l.nearest c n (e c ∙ i) }
    pick_one v w None q = one (h.none_free v ((next_none p last).0 q)) (g.none_free w (λ c l. sym (e c) ∙ (next_none p last).0 q c l)) refl refl

    go : Dec (b ≡ 0xFF) → Dec (get_or (udid_bytes u) 0 0 < 64) → (t : Bool) → member p (b / 2) ≡ t → (k ≡ m) × (x ≡ y)
    go (yes q) d t z = pick_one (inl q) (inl q) (next_free p last) refl
    go (no n) (yes l) t z = one (h.fixed n l) (g.fixed n l) refl refl
    go (no n) (no l) false z = one (h.own n (omega arith) z) (g.own n (omega arith) (sym (e (b / 2)) ∙ z)) refl refl
    go (no n) (no l) true z = pick_one (inr (omega arith, z)) (inr (omega arith, sym (e (b / 2)) ∙ z)) (next_free p last) refl

pub replies_alike : (s : Controller) (u : Udid) (b : ℕ) (r q : Stepped) → s.picked < 128 → Replies s u b r → Replies s u b q → Alike r q
replies_alike s u b r q small h g =
    let e : (a : ℕ) → Same q.state r.state a = unbinds_both u s r.state q.state h.unbinds g.unbinds in
    let k = chooses_both r.state.pool q.state.pool s.picked u b r.command q.command r.state.picked q.state.picked small (λ a. (e a).1) h.chooses g.chooses in
    hands_both s r q q.command s.gets (subst (λ (x : Handed). Hands s r x s.gets) k.0 h.hands) g.hands k.1 e

-- and it is an address, or none is free
pub chooses_address_or_none : (p : Pool) (last : ℕ) (u : Udid) (b : ℕ) (k : Handed) (m : ℕ) → last < 128 → Chooses p last u b k m → ((a : Address) × (k ≡ Send (Assign u a))) ⊎ (k ≡ Wait (NoneFree u))
chooses_address_or_none p last u b k m small h = go (ℕ_discrete b 0xFF) (dec_lt (get_or (udid_bytes u) 0 0) 64) (member p (b / 2)) refl
  where
    pick_one : (b ≡ 0xFF) ⊎ ((64 ≤ get_or (udid_bytes u) 0 0) × (member p (b / 2) ≡ true)) → (f : Option Address) → next_free p last ≡ f → ((a : Address) × (k ≡ Send (Assign u a))) ⊎ (k ≡ Wait (NoneFree u))
    pick_one w (Some a) q = inl (a, (h.picked w a.0 ((next_is p last a.0 small).0 q)).0)
    pick_one w None q = inr (h.none_free w ((next_none p last).0 q)).0

    go : Dec (b ≡ 0xFF) → Dec (get_or (udid_bytes u) 0 0 < 64) → (t : Bool) → member p (b / 2) ≡ t → ((a : Address) × (k ≡ Send (Assign u a))) ⊎ (k ≡ Wait (NoneFree u))
    go (yes q) d t z = pick_one (inl q) (next_free p last) refl
    go (no n) (yes l) t z = inl (_, (h.fixed n l).0)
    go (no n) (no l) false z = inl (_, (h.own n (omega arith) z).0)
    go (no n) (no l) true z = pick_one (inr (omega arith, z)) (next_free p last) refl
