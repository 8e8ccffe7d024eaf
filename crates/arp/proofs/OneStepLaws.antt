-- The scope's sentences on a step (specs/OneStep.antt) hold of every step, from every state: whatever was done before it.
use Rattle.std.specs.Prelude.{ℕ, zero, suc, ◌+◌, ◌*◌, ◌/◌, ◌≤◌, ◌<◌, ◌≡◌, Bool, true, false, List, [], ◌∷◌, ◌++◌, ◌⊎◌, ltb, leb, length, get_or, Option, Some, None, Ok, Err}
use Rattle.std.proofs.Math.Path.{refl}
use Rattle.std.proofs.Common.{sym, ap, ap₂, ◌∙◌, subst, inl, inr, arith, length-append, lt-ltb, le-ltb, le-leb}
use Rattle.std.proofs.Math.Decide.{ℕ_discrete, dec_lt}
use Rattle.std.proofs.lemmas.List.{get_or_at}
use Rattle.std.proofs.lemmas.Bool.{lt-leb}
use Rattle.lists.specs.AbsurdLaws.{zero_is_one}
use Rattle.lists.specs.Choice.{pick, or}
use Rattle.lists.specs.ChoiceLaws.{or_last}
use Rattle.lists.specs.Each.{Bytes}
use Rattle.lists.specs.EachLaws.{append_bytes}
use Rattle.wire.specs.declared.address.Address.{Address}
use Rattle.scan.specs.Decoded.{Decoded}
use Rattle.pool.specs.NextFree.{next_free}
use Rattle.pool.specs.NextFreeLaws.{next_is, next_none}
use Rattle.pool.specs.MemberLaws.{has_with_same, has_with_other, has_without_same, has_without_other}
use Rattle.pool.specs.Pools.{member, without_address}
use Rattle.pool.specs.Start.{starting_pool, barred_pool}
use Rattle.pool.specs.declared.Pool.{Pool}
use Rattle.udid.specs.Bytes.{udid_bytes, udid_at}
use Rattle.udid.proofs.UdidLaws.{same_refl, length_udid, udid_bytes_lem, udid_back, fixed_first, movable_first}
use Rattle.udid.specs.Udids.{Fits}
use Rattle.udid.specs.declared.Udid.{Udid}
use Rattle.picking.proofs.PickingLaws.{ff_picks, fixed_picks_none, movable_picks, chosen_picked, chosen_own}
use Rattle.arp.proofs.HandingLaws.{bound_keeps_gets, freed_keeps_gets}
use Rattle.arp.proofs.HeardLaws.{six_exactly}
use Rattle.arp.proofs.OutstandingLaws.{idle_gives_21}
use Rattle.arp.proofs.PickedLaws.{freed_keeps_picked}
use Rattle.commands.specs.RequestLaws.{reply_symbols, prepare_symbols, assign_symbols_small}
use Rattle.arp.proofs.SoundLaws.{bound_to_is_bound, open_is_not_bound, find_cases}
use Rattle.slots.proofs.SlotsLaws.{held_above_is_open, held_same, held_other}
use Rattle.arp.proofs.ChangedLaws.{told_is_changed}
use Rattle.hearing.specs.TraceLaws as traces
use Rattle.arp.specs.Sound.{Nowhere}
use Rattle.arp.specs.Bindings.{freed_at, freed, bound_at, bound}
use Rattle.picking.specs.Claims.{is_held, makes_claim, binding_for}
use Rattle.slots.specs.Finding.{bound_to, find_from}
use Rattle.arp.specs.Controller.{handed, counted, asked, issued, replied, changed, stepped}
use Rattle.picking.specs.Picking.{has_to_pick, chosen}
use Rattle.hearing.specs.Heard.{answer, sent_in, is_assign}
use Rattle.commands.specs.Codes.{block_write}
use Rattle.commands.specs.CommandTraces.{prepare_trace, reply_trace, assign_trace}
use Rattle.arp.specs.OneStep.{Gives, Hands, Asks, Chooses, Keeps, BoundAt, Unbinds, Binds, Continues, EndsWith, Replies}
use Rattle.arp.specs.Replay.{assigning}
use Rattle.slots.specs.Slots.{Sized128, held_at, with_binding}
use Rattle.commands.specs.declared.command.Command.TheVariants.{Prepare, GetUdid, Assign}
use Rattle.commands.specs.declared.command.End.TheVariants.{Ended, NoneFree, Abandoned, NotOutstanding}
use Rattle.commands.specs.declared.command.Handed.{Handed}
use Rattle.commands.specs.declared.command.Handed.TheVariants.{Send, Wait}
use Rattle.slots.specs.declared.Binding.{Binding}
use Rattle.slots.specs.declared.Binding.TheVariants.{Open, Bound, Claimed, Left}
use Rattle.arp.specs.declared.state.Controller.{Controller}
use Rattle.slots.specs.declared.Slots.{Slots}
use Rattle.arp.specs.declared.state.Stepped.{Stepped}
use Rattle.hearing.specs.Told.{told_assign, tells, no_command}
use Rattle.hearing.specs.declared.told.Told.TheVariants.{Again, Over, GivenUp, Reply, Took}

-- ---- what is handed out

-- from a state with the same counts
hands : (s t : Controller) (k : Handed) (n : ℕ) → t.gets ≡ n → t.occupied ≡ s.occupied → Hands s (handed t k) k n
hands s t k n g e = record { command = refl; last = refl; gets = g; occupied = e }

ends : (s : Controller) (k : Handed) → Hands s (handed s k) k s.gets
ends s k = hands s s k s.gets refl refl

asks : (s t : Controller) → t.gets ≡ s.gets → t.occupied ≡ s.occupied → Asks s (asked t)
unfolding asked
asks s t g e = record { again = more; limit = full }
  where
    more : s.gets < 128 → Hands s (asked t) (Send GetUdid) (s.gets + 1)
    more h = rw (lt-leb 128 t.gets (omega arith)) (hands s (counted t) (Send GetUdid) (s.gets + 1) (omega arith) e)

    full : 128 ≤ s.gets → Hands s (asked t) (Wait Abandoned) s.gets
    full h = rw (le-leb 128 t.gets (omega arith)) (hands s t (Wait Abandoned) s.gets g e)

keeps_asked : (s : Controller) → Keeps s (asked s).state
unfolding asked
keeps_asked s = go (leb 128 s.gets)
  where
    go : (b : Bool) → Keeps s (pick b (handed s (Wait Abandoned)) (handed (counted s) (Send GetUdid))).state
    go true = record { slots = refl; pool = refl; picked = refl }
    go false = record { slots = refl; pool = refl; picked = refl }

continues : (s : Controller) → Continues s (asked s)
continues s = (asks s s refl refl, keeps_asked s)

ends_with : (s : Controller) (k : Handed) → EndsWith s (handed s k) k
ends_with s k = (hands s s k s.gets refl refl, record { slots = refl; pool = refl; picked = refl })

-- ---- unbinding

-- no address below the one that is found holds the identifier
find_lowest : (u : Udid) (slots : Slots) (n a j : ℕ) → a ≤ j → j < find_from u slots n a → j < a + n → bound_to u (held_at slots j) ≡ false
unfolding find_from
find_lowest u slots zero a j l h k = absurd (omega arith)
find_lowest u slots (suc n) a j l h k = go (bound_to u (held_at slots a)) refl h (ℕ_discrete a j) (λ m q. find_lowest u slots n (suc a) j m q (omega arith))
  where
    go : (t : Bool) → bound_to u (held_at slots a) ≡ t → j < pick t a (find_from u slots n (suc a)) → Dec (a ≡ j)
        → (suc a ≤ j → j < find_from u slots n (suc a) → bound_to u (held_at slots j) ≡ false) → bound_to u (held_at slots j) ≡ false
    go true e q d ih = absurd (omega arith)
    go false e q (yes d) ih = ap (λ (x : ℕ). bound_to u (held_at slots x)) (sym d) ∙ e
    go false e q (no d) ih = ih (omega arith) q

module _ (s : Controller) (u : Udid) (size : Sized128 s.slots) where
  -- what holds the identifier is bound to it
  never : (h : Binding) → bound_to u h ≡ false → h ≡ Bound u → ⊥
  never h e q = zero_is_one (cc (sym e ∙ ap (bound_to u) q ∙ same_refl u))

  unbinds_none : Nowhere u s.slots 0 → Unbinds u s s
  unbinds_none n = record { there = λ a w. absurd (gone a w (dec_lt a 128)); out = λ a w q. absurd (gone a w (dec_lt a 128)); stays = λ a w q. refl; elsewhere = λ a w. (refl, refl) }
    where
      gone : (a : ℕ) → BoundAt s.slots u a → Dec (a < 128) → ⊥
      gone a w (yes h) = never (held_at s.slots a) (n a (omega arith) h) w.here
      gone a w (no h) = open_is_not_bound (held_at s.slots a) u (held_above_is_open s.slots a (omega arith)) w.here

  module _ (f : ℕ) (h : f < 128) (e : bound_to u (held_at s.slots f) ≡ true) (below : (j : ℕ) → j < f → bound_to u (held_at s.slots j) ≡ false) where
    found : BoundAt s.slots u f
    found = record { here = bound_to_is_bound u (held_at s.slots f) e; lowest = λ b l q. never (held_at s.slots b) (below b l) q }

    it : (a : ℕ) → BoundAt s.slots u a → a ≡ f
    it a w = go (dec_lt a f) (dec_lt f a)
      where
        go : Dec (a < f) → Dec (f < a) → a ≡ f
        go (yes l) k = absurd (never (held_at s.slots a) (below a l) w.here)
        go (no l) (yes k) = absurd (w.lowest f k found.here)
        go (no l) (no k) = omega arith

    unbinds_at : Unbinds u s (freed_at s f)
    unbinds_at = record {
      there = λ a w. ap (held_at (with_binding s.slots f Open)) (it a w) ∙ held_same s.slots f Open size h;
      out = λ a w q. ap (member (freed_at s f).pool) (it a w) ∙ ap (then f) (ap (member (starting_pool s.occupied)) (sym (it a w)) ∙ q) ∙ has_without_same s.pool f;
      stays = λ a w q. ap (then a) (ap (member (starting_pool s.occupied)) (sym (it a w)) ∙ q);
      elsewhere = λ a n. other a (λ q. n (subst (BoundAt s.slots u) (sym q) found)) (member (starting_pool s.occupied) f);
    }
      where
        then : ℕ → Bool → Bool
        then a t = member (pick t s.pool (without_address s.pool f)) a

        other : (a : ℕ) → (a ≡ f → ⊥) → (t : Bool) → (held_at (with_binding s.slots f Open) a ≡ held_at s.slots a) × (then a t ≡ member s.pool a)
        other a n true = (held_other s.slots f a Open n, refl)
        other a n false = (held_other s.slots f a Open n, has_without_other s.pool f a n)

  unbinds : Unbinds u s (freed s u)
  unfolding freed
  unbinds = go (find_from u s.slots 128 0) (find_cases u s.slots 128 0 (omega arith)) (λ j l k. find_lowest u s.slots 128 0 j (omega arith) l k)
    where
      go : (f : ℕ) → ((f ≡ 128) × Nowhere u s.slots 0) ⊎ ((f < 128) × (bound_to u (held_at s.slots f) ≡ true))
          → ((j : ℕ) → j < f → j < 0 + 128 → bound_to u (held_at s.slots j) ≡ false) → Unbinds u s (pick (ltb 127 f) s (freed_at s f))
      go f (inl r) m = rw (lt-ltb 127 f (omega (arith, r.0))) (unbinds_none r.1)
      go f (inr r) m = rw (le-ltb 127 f (omega (arith, r.0))) (unbinds_at f r.0 r.1 (λ j l. m j l (omega (arith, r.0))))

-- ---- binding

module _ (s : Controller) (u : Udid) (a : ℕ) (size : Sized128 s.slots) (h : a < 128) where
  slot_is : (b : Bool) → makes_claim s.occupied (held_at s.slots a) a ≡ b → held_at (bound_at s u a).slots a ≡ binding_for b u
  slot_is b e = held_same s.slots a (binding_for (makes_claim s.occupied (held_at s.slots a) a) u) size h ∙ ap (λ (x : Bool). binding_for x u) e

  -- by whether it is barred, and what it was known for
  taken_by : (b : Bool) (x : Binding) → member (barred_pool s.occupied) a ≡ b → held_at s.slots a ≡ x → makes_claim s.occupied (held_at s.slots a) a ≡ or b (is_held x)
  taken_by b x e k = ap₂ (λ (t : Bool) (y : Binding). or t (is_held y)) e k

  was_held : (x : Binding) → held_at s.slots a ≡ x → is_held x ≡ true → held_at (bound_at s u a).slots a ≡ Claimed
  was_held x k t = slot_is true (taken_by (member (barred_pool s.occupied) a) x refl k ∙ ap (or (member (barred_pool s.occupied) a)) t ∙ or_last (member (barred_pool s.occupied) a))

  binds_at : Binds u a s (bound_at s u a)
  binds_at = record {
    free = λ e w. slot_is false (empty e w);
    barred = λ e. slot_is true (taken_by true (held_at s.slots a) e refl);
    another = λ w k. was_held (Bound w) k refl;
    marked = λ k. was_held Claimed k refl;
    used = has_with_same s.pool a h;
    elsewhere = λ b n. (held_other s.slots a b (binding_for (makes_claim s.occupied (held_at s.slots a) a) u) n, has_with_other s.pool a b n);
    picked = refl;
  }
    where
      empty : member (barred_pool s.occupied) a ≡ false → (held_at s.slots a ≡ Open) ⊎ (held_at s.slots a ≡ Left) → makes_claim s.occupied (held_at s.slots a) a ≡ false
      empty e (inl k) = taken_by false Open e k
      empty e (inr k) = taken_by false Left e k

  binds : Binds u a s (bound s u a)
  unfolding bound
  binds = rw (le-ltb 127 a (omega arith)) binds_at

-- what was done to the addresses stands when Get UDID is due
binds_kept : (u : Udid) (a : ℕ) (s t r : Controller) → Binds u a s t → Keeps t r → Binds u a s r
binds_kept u a s t r b k = record {
  free = λ e w. ap (λ (x : Slots). held_at x a) k.slots ∙ b.free e w;
  barred = λ e. ap (λ (x : Slots). held_at x a) k.slots ∙ b.barred e;
  another = λ w e. ap (λ (x : Slots). held_at x a) k.slots ∙ b.another w e;
  marked = λ e. ap (λ (x : Slots). held_at x a) k.slots ∙ b.marked e;
  used = ap (λ (p : Pool). member p a) k.pool ∙ b.used;
  elsewhere = λ c n. (
    ap (λ (x : Slots). held_at x c) k.slots ∙ (b.elsewhere c n).0,
    ap (λ (p : Pool). member p c) k.pool ∙ (b.elsewhere c n).1,
  );
  picked = k.picked ∙ b.picked;
}

occupied_bound : (s : Controller) (u : Udid) (a : ℕ) → (bound s u a).occupied ≡ s.occupied
unfolding bound
occupied_bound s u a = go (ltb 127 a)
  where
    go : (b : Bool) → (pick b s (bound_at s u a)).occupied ≡ s.occupied
    go true = refl
    go false = refl

occupied_freed : (s : Controller) (u : Udid) → (freed s u).occupied ≡ s.occupied
unfolding freed
occupied_freed s u = go (ltb 127 (find_from u s.slots 128 0))
  where
    go : (b : Bool) → (pick b s (freed_at s (find_from u s.slots 128 0))).occupied ≡ s.occupied
    go true = refl
    go false = refl

-- ---- choosing

-- the last pick after a choice
abbrev then : ℕ → Bool → Option Address → ℕ
then last t (Some a) = pick t a.0 last
then last t None = last

module _ (p : Pool) (last : ℕ) (u : Udid) (b : ℕ) (small : last < 128) (f : Fits u) where
  to_pick : (b ≡ 0xFF) ⊎ ((64 ≤ get_or (udid_bytes u) 0 0) × (member p (b / 2) ≡ true)) → has_to_pick p u b ≡ true
  to_pick (inl e) = ap (has_to_pick p u) e ∙ ff_picks p u
  to_pick (inr w) = go (ℕ_discrete b 0xFF)
    where
      go : Dec (b ≡ 0xFF) → has_to_pick p u b ≡ true
      go (yes e) = ap (has_to_pick p u) e ∙ ff_picks p u
      go (no n) = movable_picks p u b n ((movable_first u f).1 w.0) ∙ w.1

  picks : has_to_pick p u b ≡ true → (g : Option Address) → next_free p last ≡ g → (chosen p last u b ≡ g) × (has_to_pick p u b ≡ true)
  picks e g q = (chosen_picked p last u b e ∙ q, e)

  keeps : has_to_pick p u b ≡ false → (chosen p last u b ≡ Some (record { 0 = b / 2 })) × (has_to_pick p u b ≡ false)
  keeps e = (chosen_own p last u b e, e)

  both : (g : Option Address) (t : Bool) → (chosen p last u b ≡ g) × (has_to_pick p u b ≡ t)
      → (assigning u (chosen p last u b) ≡ assigning u g) × (then last (has_to_pick p u b) (chosen p last u b) ≡ then last t g)
  both g t e = (ap (assigning u) e.0, ap₂ (then last) e.1 e.0)

  chooses : Chooses p last u b (assigning u (chosen p last u b)) (then last (has_to_pick p u b) (chosen p last u b))
  chooses = record {
    picked = λ w a n. both (Some (record { 0 = a })) true (picks (to_pick w) (Some (record { 0 = a })) ((next_is p last a small).1 n));
    none_free = λ w l. both None true (picks (to_pick w) None ((next_none p last).1 l));
    fixed = λ n l. both (Some (record { 0 = b / 2 })) false (keeps (fixed_picks_none p u b n ((fixed_first u f).1 l)));
    own = λ n l m. both (Some (record { 0 = b / 2 })) false (keeps (movable_picks p u b n ((movable_first u f).1 l) ∙ m));
  }

module _ (s : Controller) (u : Udid) (b : ℕ) (small : s.picked < 128) (f : Fits u) (size : Sized128 s.slots) where
  freed_small : (freed s u).picked < 128
  freed_small = omega (arith, freed_keeps_picked s u)

  chooses_freed : (k : Option Address) → chosen (freed s u).pool (freed s u).picked u b ≡ k
      → Chooses (freed s u).pool s.picked u b (assigning u k) (then (freed s u).picked (has_to_pick (freed s u).pool u b) k)
  chooses_freed k e =
      subst (λ (l : ℕ). Chooses (freed s u).pool l u b (assigning u k) (then (freed s u).picked (has_to_pick (freed s u).pool u b) k)) (freed_keeps_picked s u)
      (subst (λ (x : Option Address). Chooses (freed s u).pool (freed s u).picked u b (assigning u x) (then (freed s u).picked (has_to_pick (freed s u).pool u b) x)) e
      (chooses (freed s u).pool (freed s u).picked u b freed_small f))

  replies_with : (k : Option Address) → chosen (freed s u).pool (freed s u).picked u b ≡ k → Replies s u b (issued (freed s u) u (has_to_pick (freed s u).pool u b) k)
  replies_with (Some a) e = record {
    unbinds = record { there = (unbinds s u size).there; out = (unbinds s u size).out; stays = (unbinds s u size).stays; elsewhere = (unbinds s u size).elsewhere };
    chooses = chooses_freed (Some a) e;
    hands = record { command = refl; last = refl; gets = freed_keeps_gets s u; occupied = occupied_freed s u };
  }
  replies_with None e = record {
    unbinds = record { there = (unbinds s u size).there; out = (unbinds s u size).out; stays = (unbinds s u size).stays; elsewhere = (unbinds s u size).elsewhere };
    chooses = chooses_freed None e;
    hands = hands s (freed s u) (Wait (NoneFree u)) s.gets (freed_keeps_gets s u) (occupied_freed s u);
  }

  replies : Replies s u b (replied s u b)
  unfolding replied
  replies = replies_with (chosen (freed s u).pool (freed s u).picked u b) refl

-- what a reply of 17 bytes tells
pub told_reply_lem : (tr : List ℕ) (u : Udid) (b : ℕ) → Fits u → b < 256 → tr ≡ reply_trace (udid_bytes u ++ b ∷ []) → tells (Send GetUdid) tr ≡ Reply u b
told_reply_lem tr u b f h q =
    let n : length (udid_bytes u ++ b ∷ []) ≡ 17 = omega (arith, length-append (udid_bytes u) (b ∷ []), length_udid u) in
    let v : udid_at (udid_bytes u ++ b ∷ []) 0 ≡ u = udid_back [] (b ∷ []) 0 u f refl in
    let g : get_or (udid_bytes u ++ b ∷ []) 16 0 ≡ b = get_or_at (udid_bytes u) b [] 0 16 (length_udid u) in
    traces.get_reply tr (udid_bytes u ++ b ∷ []) (append_bytes (udid_bytes u) (b ∷ []) (udid_bytes_lem u) (h, tt)) (omega arith) (q ∙ sym (reply_symbols (udid_bytes u ++ b ∷ []))) n ∙ ap₂ Reply v g

-- ---- THE SENTENCES

module _ (s : Controller) (tr : List ℕ) where
  not_bound : (u : Udid) (n : ℕ) → 127 < n → bound s u n ≡ s
  unfolding bound
  not_bound u n h = rw (lt-ltb 127 n h)

  nothing_bound : (u : Udid) (a : Address) → s.last ≡ Send (Assign u a) → 127 < a.0 → stepped s tr ≡ asked s
  nothing_bound u a e h = told_is_changed s tr (Send (Assign u a)) (tells (Send (Assign u a)) tr) e refl ∙ go (answer block_write tr) (sent_in block_write tr)
    where
      either : (b : Bool) → changed s (pick b (Took u a) Again) ≡ asked s
      either true = ap asked (not_bound u a.0 h)
      either false = refl

      go : (d : Decoded) (xs : List ℕ) → changed s (told_assign u a d xs) ≡ asked s
      go (Ok t) xs = either (is_assign u a.0 t xs)
      go (Err e) xs = refl

  -- Prepare accepted: send Get UDID
  pub prepare_accepted : s.last ≡ Send Prepare → tr ≡ prepare_trace → Continues s (stepped s tr)
  prepare_accepted e q = subst (Continues s) (sym (told_is_changed s tr (Send Prepare) Again e (traces.prepare_accepted tr (q ∙ sym (prepare_symbols []))))) (continues s)

  -- answer 6: the pass ends, nobody there
  pub prepare_nobody : s.last ≡ Send Prepare → (b : ℕ) → Gives 1 tr 6 b → EndsWith s (stepped s tr) (Wait Ended)
  prepare_nobody e b g =
      subst (λ (r : Stepped). EndsWith s r (Wait Ended)) (sym (told_is_changed s tr (Send Prepare) Over e (traces.prepare_nobody tr b ((six_exactly 1 tr b refl).0 g)))) (ends_with s (Wait Ended))

  -- any other: 14
  pub prepare_other : s.last ≡ Send Prepare → (tr ≡ prepare_trace → ⊥) → ((b : ℕ) → Gives 1 tr 6 b → ⊥) → EndsWith s (stepped s tr) (Wait Abandoned)
  prepare_other e n m =
      subst (λ (r : Stepped). EndsWith s r (Wait Abandoned))
      (sym (told_is_changed s tr (Send Prepare) GivenUp e (traces.prepare_other tr (λ q. n (q ∙ prepare_symbols [])) (λ b c. m b ((six_exactly 1 tr b refl).1 c)))))
      (ends_with s (Wait Abandoned))

  -- Get UDID: a complete reply whose count is not 17: the pass ends
  pub get_count : s.last ≡ Send GetUdid → (xs : List ℕ) → Bytes xs → length xs ≤ 255 → (length xs ≡ 17 → ⊥) → tr ≡ reply_trace xs → EndsWith s (stepped s tr) (Wait Ended)
  get_count e xs h l n q =
      subst (λ (r : Stepped). EndsWith s r (Wait Ended)) (sym (told_is_changed s tr (Send GetUdid) Over e (traces.get_count tr xs h l (q ∙ sym (reply_symbols xs)) n))) (ends_with s (Wait Ended))

  -- answer 6 at byte 0, 1 or 2: the pass ends
  pub get_nobody : s.last ≡ Send GetUdid → (b : ℕ) → b < 3 → Gives 9 tr 6 b → EndsWith s (stepped s tr) (Wait Ended)
  get_nobody e b l g =
      subst (λ (r : Stepped). EndsWith s r (Wait Ended)) (sym (told_is_changed s tr (Send GetUdid) Over e (traces.get_nobody tr b ((six_exactly 9 tr b refl).0 g) l))) (ends_with s (Wait Ended))

  -- any other refusal, another address or another command: Get UDID again
  pub get_again : s.last ≡ Send GetUdid → ((xs : List ℕ) → Bytes xs → length xs ≤ 255 → tr ≡ reply_trace xs → ⊥) → ((b : ℕ) → b < 3 → Gives 9 tr 6 b → ⊥)
      → Continues s (stepped s tr)
  get_again e n m =
      subst (Continues s)
      (sym (told_is_changed s tr (Send GetUdid) Again e (traces.get_again tr (λ xs h l q. n xs h l (q ∙ reply_symbols xs)) (λ b c l. m b l ((six_exactly 9 tr b refl).1 c)))))
      (continues s)

  -- a reply of 17 bytes
  pub get_reply : Sized128 s.slots → s.picked < 128 → s.last ≡ Send GetUdid → (u : Udid) (b : ℕ) → Fits u → b < 256 → tr ≡ reply_trace (udid_bytes u ++ b ∷ []) → Replies s u b (stepped s tr)
  get_reply size small e u b f h q = subst (Replies s u b) (sym (told_is_changed s tr (Send GetUdid) (Reply u b) e (told_reply_lem tr u b f h q))) (replies s u b small f size)

  -- Assign complete: bind, and add to the pool; then Get UDID
  pub assign_whole : Sized128 s.slots → (u : Udid) (a : Address) → s.last ≡ Send (Assign u a) → Fits u → a.0 < 128 → tr ≡ assign_trace (udid_bytes u) (2 * a.0)
      → Asks s (stepped s tr) × Binds u a.0 s (stepped s tr).state
  assign_whole size u a e f h q =
      subst (λ (r : Stepped). Asks s r × Binds u a.0 s r.state)
      (sym (told_is_changed s tr (Send (Assign u a)) (Took u a) e (traces.assign_whole u a tr f (q ∙ sym (assign_symbols_small u a h))))) (
        asks s (bound s u a.0) (bound_keeps_gets s u a.0) (occupied_bound s u a.0),
        binds_kept u a.0 s (bound s u a.0) (asked (bound s u a.0)).state (binds s u a.0 size h) (keeps_asked (bound s u a.0)),
      )

  -- any other answer: no binding, Get UDID again
  pub assign_other : (u : Udid) (a : Address) → s.last ≡ Send (Assign u a) → a.0 < 128 → (tr ≡ assign_trace (udid_bytes u) (2 * a.0) → ⊥) → Continues s (stepped s tr)
  assign_other u a e h n =
      subst (Continues s) (sym (told_is_changed s tr (Send (Assign u a)) Again e (traces.assign_other u a tr (λ q. n (q ∙ assign_symbols_small u a h))))) (continues s)

  -- a number above 127 is no address: nothing is bound
  pub assign_no_address : (u : Udid) (a : Address) → s.last ≡ Send (Assign u a) → 127 < a.0 → Continues s (stepped s tr)
  assign_no_address u a e h = subst (Continues s) (sym (nothing_bound u a e h)) (continues s)

  -- 21, and the state stays, where no command of a pass is outstanding
  pub none_outstanding : no_command s.last ≡ true → ((stepped s tr).state ≡ s) × ((stepped s tr).command ≡ Wait NotOutstanding)
  none_outstanding e = idle_gives_21 s tr e
