-- What the circle is for: an address that was picked is not picked again before each other one that stayed free has been picked. Each
-- pick goes on round the circle and passes no free address over; who comes back to the same address has gone the whole way round.
use Rattle.std.specs.Prelude.{ℕ, suc, ◌+◌, ◌-◌, ◌%◌, ◌<◌, ◌≤◌, ◌≡◌, refl, ◌⊎◌}
use Rattle.std.proofs.Common.{sym, inl, inr, arith}
use mathlib.Core.List.{List, [], ◌∷◌, ◌++◌}
use Rattle.std.proofs.Math.Decide.{dec_lt, ℕ_discrete}
use Rattle.pool.specs.Digits.{digit}
use Rattle.pool.specs.Free.{free_from}
use Rattle.pool.specs.NextFree.{next_free}
use Rattle.pool.specs.NextFreeLaws.{next_is, next_free_lem}
use Rattle.pool.specs.Picks.{Pick, Picks, FreeAtEach, Picked, latest_of}
use Rattle.pool.specs.Pools.{member}
use Rattle.pool.specs.declared.Pool.{Pool}

-- ---- runs one after another

-- picks after the latest of a run go on with it
pub picks_on : (last : ℕ) (xs ys : List Pick) → Picks last xs → Picks (latest_of last xs) ys → Picks last (xs ++ ys)
unfolding Picks latest_of
picks_on last [] ys p q = q
picks_on last (x ∷ xs) ys p q = (p.0, picks_on x.at xs ys p.1 q)

pub latest_on : (last : ℕ) (xs ys : List Pick) → latest_of last (xs ++ ys) ≡ latest_of (latest_of last xs) ys
unfolding latest_of
latest_on last [] ys = refl
latest_on last (x ∷ xs) ys = latest_on x.at xs ys

-- ---- three places on the circle

-- b lies before a, going on from c
abbrev Before : ℕ → ℕ → ℕ → Type 0
Before c b a = (b + 127 - c) % 128 < (a + 127 - c) % 128

-- a distance x from c on to a, without its remainder: a is above c, or not
abbrev Way : ℕ → ℕ → ℕ → Type 0
Way c a x = ((c < a) × (x + suc c ≡ a)) ⊎ ((a ≤ c) × (x + c ≡ a + 127))

way : (c a : ℕ) → c < 128 → a < 128 → Way c a ((a + 127 - c) % 128)
way c a h k = go (dec_lt c a)
  where
    go : Dec (c < a) → Way c a ((a + 127 - c) % 128)
    go (yes l) = inl (l, omega arith)
    go (no l) = inr (omega arith, omega arith)

-- going on from a, every other address lies before a itself
other : (a b x y : ℕ) → b < 128 → (b ≡ a → ⊥) → Way a b x → Way a a y → x < y
other a b x y h n (inl s) (inl t) = absurd (omega (arith, t.0))
other a b x y h n (inl s) (inr t) = omega (arith, s.0, s.1, t.1)
other a b x y h n (inr s) (inl t) = absurd (omega (arith, t.0))
other a b x y h n (inr s) (inr t) = go (ℕ_discrete b a)
  where
    go : Dec (b ≡ a) → x < y
    go (yes e) = absurd (n e)
    go (no e) = let k : b < a = omega (arith, s.0) in omega (arith, k, s.1, t.1)

other_before : (a b : ℕ) → a < 128 → b < 128 → (b ≡ a → ⊥) → Before a b a
other_before a b h k n = other a b _ _ k n (way a b h k) (way a a h h)

-- gone on from c to d, an address t that is not passed lies nearer by that way
shorter : (c d t x y z : ℕ) → c < 128 → d < 128 → t < 128 → x ≤ y → (d ≡ t → ⊥) → Way c d x → Way c t y → Way d t z → suc (z + x) ≡ y
shorter c d t x y z hc hd ht near n (inl u) (inl v) (inl w) = omega (arith, u.1, v.1, w.1)
shorter c d t x y z hc hd ht near n (inl u) (inl v) (inr w) = absurd (n (omega (arith, near, u.1, v.1, w.0)))
shorter c d t x y z hc hd ht near n (inl u) (inr v) (inl w) = absurd (omega (arith, u.0, v.0, w.0))
shorter c d t x y z hc hd ht near n (inl u) (inr v) (inr w) = omega (arith, u.1, v.1, w.1)
shorter c d t x y z hc hd ht near n (inr u) (inl v) w = absurd (omega (arith, near, u.0, u.1, v.0, v.1))
shorter c d t x y z hc hd ht near n (inr u) (inr v) (inl w) = omega (arith, u.1, v.1, w.1)
shorter c d t x y z hc hd ht near n (inr u) (inr v) (inr w) = absurd (n (omega (arith, near, u.1, v.1, w.0)))

-- gone on from c to d, which is not past b and not b: b still lies before a
nearer : (x z v y w : ℕ) → suc (x + y) ≡ z → suc (w + y) ≡ v → z < v → x < w
nearer x z v y w e g h = omega arith

through : (x y z : ℕ) → x ≤ y → y < z → x ≤ z
through x y z e g = omega arith

less : (x y : ℕ) → x ≤ y → y < x → ⊥
less x y g h = omega arith

still_before : (c d b a : ℕ) → c < 128 → d < 128 → b < 128 → a < 128
    → (d + 127 - c) % 128 ≤ (b + 127 - c) % 128 → (d ≡ b → ⊥) → Before c b a → Before d b a
still_before c d b a hc hd hb ha near n f =
    nearer _ _ _ ((d + 127 - c) % 128) _
    (shorter c d b _ _ _ hc hd hb near n (way c d hc hd) (way c b hc hb) (way d b hd hb))
    (shorter c d a _ _ _ hc hd ha (through _ _ _ near f) past (way c d hc hd) (way c a hc ha) (way d a hd ha))
    f
  where
    past : d ≡ a → ⊥
    past e =
        let k : (a + 127 - c) % 128 ≤ (b + 127 - c) % 128 = rw (sym e) near in
        less _ _ k f

-- ---- the run

module _ (a b : ℕ) (ha : a < 128) (hb : b < 128) where
  -- b lies before a going on from c, and stays free until a is picked: then b was picked first
  pub first_picked : (c : ℕ) → c < 128 → (ys : List Pick) (x : Pick) (zs : List Pick) → Before c b a → Picks c (ys ++ (x ∷ zs))
      → x.at ≡ a → FreeAtEach b (ys ++ (x ∷ [])) → Picked b ys
  unfolding Picks FreeAtEach Picked
  first_picked c hc [] x zs f r e w =
      let near = ((next_is x.pool c x.at hc).0 r.0).nearest b hb w.0 in
      let k : (a + 127 - c) % 128 ≤ (b + 127 - c) % 128 = rw (sym e) near in
      absurd (omega (arith, k, f))
  first_picked c hc (y ∷ ys) x zs f r e w = go (ℕ_discrete y.at b) (λ q. first_picked y.at hd ys x zs q r.1 e w.1)
    where
      hd : y.at < 128
      hd = (next_free_lem y.pool c y.at r.0).0

      go : Dec (y.at ≡ b) → (Before y.at b a → Picked b ys) → (y.at ≡ b) ⊎ Picked b ys
      go (yes d) ih = inl d
      go (no d) ih = inr (ih (still_before c y.at b a hc hd hb ha (((next_is y.pool c y.at hc).0 r.0).nearest b hb w.0) d f))

-- In any run of picks, after any last: where the address of one pick, earlier, is that of a later one, each other address that was free
-- at every pick since the earlier one, the later included, was picked between them.
pub rotation : (last : ℕ) (ws : List Pick) (earlier : Pick) (between : List Pick) (later : Pick) (rest : List Pick)
    → Picks last (ws ++ (earlier ∷ (between ++ (later ∷ rest))))
    → later.at ≡ earlier.at
    → (b : ℕ) → b < 128 → (b ≡ earlier.at → ⊥) → FreeAtEach b (between ++ (later ∷ [])) → Picked b between
unfolding Picks
rotation last [] x ys y zs r e b h n w =
    let k : x.at < 128 = (next_free_lem x.pool last x.at r.0).0 in
    first_picked x.at b k h x.at k ys y zs (other_before x.at b k h n) r.1 e w
rotation last (v ∷ ws) x ys y zs r e b h n w = rotation v.at ws x ys y zs r.1 e b h n w

-- ---- such a run

-- all are in use but 10h and 20h
unfoldable pub two : Pool
two = record { low = 0xFFFFFFFEFFFEFFFF; high = 0xFFFFFFFFFFFFFFFF }

-- never picked, then 10h, 20h and 10h again
pub two_in_turn : Picks 127 (record { pool = two; at = 0x10 } ∷ record { pool = two; at = 0x20 } ∷ record { pool = two; at = 0x10 } ∷ [])
unfolding Picks next_free free_from member digit two
two_in_turn = (refl, (refl, (refl, tt)))
