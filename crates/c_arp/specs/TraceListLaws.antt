-- The bytes of a list of traces, issues, declines and reports by example, when an entry is cut, and that a pass reads the list back.
use Rattle.std.specs.Prelude.{ℕ, zero, suc, ◌+◌, ◌*◌, ◌/◌, ◌%◌, ◌≤◌, ◌<◌, ◌≡◌, refl, Bool, true, false, List, [], ◌∷◌, ◌++◌, ◌⊎◌, ◌↔◌, ltb, leb, length, drop}
use Rattle.std.proofs.Common.{sym, ap, ap₂, ◌∙◌, subst, append_assoc, inl, inr, arith, length-append, drop_at, lt-ltb, le-ltb, ltb-true, ltb-false, le-leb, leb-false, ne_eqb}
use Rattle.std.proofs.lemmas.Bool.{lt-leb}
use Rattle.lists.specs.Choice.{pick, and}
use Rattle.lists.specs.ChoiceLaws.{and_none}
use Rattle.pool.specs.declared.Pool.{Pool}
use Rattle.arp.specs.Controller.{new_controller, started}
use Rattle.arp.specs.History.{Step, Choose, Event, Start, Received, Gone, Issue, Decline}
use Rattle.arp.specs.declared.state.Stepped.{Stepped}
use Rattle.pairs.specs.Pairs.{pairs_of, symbols_in}
use Rattle.pairs.specs.PairLaws.{pairs_back, length_pairs}
use Rattle.c_arp.specs.Pass.{said, head_of, half_size, size_by, size_for, size_of, is_whole, entry_by, entry_of, entries_in, after_event, steps_over, pass_over}
use Rattle.c_arp.specs.declared.entry.Head.{Head}
use Rattle.c_arp.specs.declared.entry.Head.TheVariants as head
use Rattle.c_arp.specs.TraceLists.{Listed, list_bytes, Cut}

-- ---- by example

-- a trace of two symbols, a report of the address 45h, and a trace of no symbol
pub three_entries : list_bytes (Received Step (256 ∷ 257 ∷ []) ∷ Gone 0x45 ∷ Received Step [] ∷ []) ≡ 2 ∷ 0 ∷ 0 ∷ 1 ∷ 1 ∷ 1 ∷ 0xFF ∷ 0xFF ∷ 0x45 ∷ 0 ∷ 0 ∷ 0 ∷ []
unfolding list_bytes pairs_of
three_entries = refl

-- it can stand in a list, and is read back letter by letter
pub three_listed : Listed (Received Step (256 ∷ 257 ∷ []) ∷ Gone 0x45 ∷ Received Step [] ∷ [])
three_listed = (omega arith, (omega arith, tt))

pub three_read : entries_in 12 (2 ∷ 0 ∷ 0 ∷ 1 ∷ 1 ∷ 1 ∷ 0xFF ∷ 0xFF ∷ 0x45 ∷ 0 ∷ 0 ∷ 0 ∷ []) ≡ Received Step (256 ∷ 257 ∷ []) ∷ Gone 0x45 ∷ Received Step [] ∷ []
unfolding entries_in symbols_in
three_read = refl

-- and so a trace of two symbols for the first half of a step, an issue, and a decline
pub choice_entries : list_bytes (Received Choose (256 ∷ 257 ∷ []) ∷ Issue ∷ Decline ∷ []) ≡ 0xFE ∷ 0xFF ∷ 2 ∷ 0 ∷ 0 ∷ 1 ∷ 1 ∷ 1 ∷ 0xFD ∷ 0xFF ∷ 0xFC ∷ 0xFF ∷ []
unfolding list_bytes pairs_of
choice_entries = refl

pub choice_listed : Listed (Received Choose (256 ∷ 257 ∷ []) ∷ Issue ∷ Decline ∷ [])
choice_listed = (omega arith, tt)

pub choice_read : entries_in 12 (0xFE ∷ 0xFF ∷ 2 ∷ 0 ∷ 0 ∷ 1 ∷ 1 ∷ 1 ∷ 0xFD ∷ 0xFF ∷ 0xFC ∷ 0xFF ∷ []) ≡ Received Choose (256 ∷ 257 ∷ []) ∷ Issue ∷ Decline ∷ []
unfolding entries_in symbols_in
choice_read = refl

-- a trace of l + 256 h symbols begins with the bytes l and h: one of 258 with 02h, 01h
pub count_bytes : (l h : ℕ) (tr : List ℕ) (es : List Event) → l < 256 → length tr ≡ l + 256 * h → list_bytes (Received Step tr ∷ es) ≡ l ∷ h ∷ (pairs_of tr ++ list_bytes es)
unfolding list_bytes
count_bytes l h tr es k e = ap₂ (λ (x y : ℕ). x ∷ y ∷ (pairs_of tr ++ list_bytes es)) (omega (arith, e, k)) (omega (arith, e, k))

-- for the first half of a step, FEh and FFh stand before them
pub half_bytes : (tr : List ℕ) (es : List Event) → list_bytes (Received Choose tr ∷ es) ≡ 0xFE ∷ 0xFF ∷ list_bytes (Received Step tr ∷ es)
unfolding list_bytes
half_bytes tr es = refl

-- a report of an address is FFh, FFh, the address, 00h
pub report_bytes : (a : ℕ) (es : List Event) → a < 256 → list_bytes (Gone a ∷ es) ≡ 0xFF ∷ 0xFF ∷ a ∷ 0 ∷ list_bytes es
unfolding list_bytes
report_bytes a es h = ap₂ (λ (x y : ℕ). 0xFF ∷ 0xFF ∷ x ∷ y ∷ list_bytes es) (omega arith) (omega arith)

-- one list after another
pub listed_both : (es xs : List Event) → Listed es → Listed xs → Listed (es ++ xs)
listed_both [] xs v w = w
listed_both (Start ∷ es) xs v w = absurd v
listed_both (Received x tr ∷ es) xs v w = (v.0, listed_both es xs v.1 w)
listed_both (Gone a ∷ es) xs v w = listed_both es xs v w
listed_both (Issue ∷ es) xs v w = listed_both es xs v w
listed_both (Decline ∷ es) xs v w = listed_both es xs v w

-- ---- what is cut

-- a number that is no mark is that of a trace's symbols
counts : (n : ℕ) → n < 65532 → head_of n ≡ head.Count
counts n h =
    rw (ne_eqb n 65535 (λ e. omega (arith, h, e)), ne_eqb n 65534 (λ e. omega (arith, h, e)), ne_eqb n 65533 (λ e. omega (arith, h, e)), ne_eqb n 65532 (λ e. omega (arith, h, e)))

-- an entry of some size is whole unless there are fewer bytes
cut_size : (size k : ℕ) → 0 < size → (and (ltb 0 size) (leb size k) ≡ false) ↔ (k < size)
cut_size size k h = (
  λ e. leb-false size k (sym (ap (λ (b : Bool). and b (leb size k)) (lt-ltb 0 size h)) ∙ e),
  λ q. ap (and (ltb 0 size)) (lt-leb size k q) ∙ and_none (ltb 0 size),
)

module _ (rest : List ℕ) where
  cut_by : (size : ℕ) → size_of rest ≡ size → 0 < size → Cut rest ↔ (length rest < size)
  cut_by size e h = subst (λ (x : ℕ). (and (ltb 0 x) (leb x (length rest)) ≡ false) ↔ (length rest < size)) (sym e) (cut_size size (length rest) h)

  by_first : (n : ℕ) → said rest ≡ n → size_of rest ≡ size_for n (said (drop 2 rest))
  by_first n e = ap (λ (x : ℕ). size_for x (said (drop 2 rest))) e

  -- a report of fewer than four bytes
  pub cut_report : said rest ≡ 65535 → Cut rest ↔ (length rest < 4)
  cut_report e = cut_by 4 (by_first 65535 e) (omega arith)

  -- a trace of fewer than its symbols take
  pub cut_trace : said rest < 65532 → Cut rest ↔ (length rest < 2 + 2 * said rest)
  cut_trace h = cut_by (2 + 2 * said rest) (ap (λ (x : Head). size_by x (said rest) (said (drop 2 rest))) (counts (said rest) h)) (omega arith)

  -- a first half of fewer bytes than its mark, its count and its symbols take, or with a count above 65,531
  pub cut_half : said rest ≡ 65534 → Cut rest ↔ ((length rest < 4 + 2 * said (drop 2 rest)) ⊎ (65531 < said (drop 2 rest)))
  cut_half e = go (ltb 65531 (said (drop 2 rest))) refl
    where
      go : (b : Bool) → ltb 65531 (said (drop 2 rest)) ≡ b → Cut rest ↔ ((length rest < 4 + 2 * said (drop 2 rest)) ⊎ (65531 < said (drop 2 rest)))
      go true q = (
        λ c. inr (ltb-true 65531 (said (drop 2 rest)) q),
        λ h. ap (λ (x : ℕ). and (ltb 0 x) (leb x (length rest))) (by_first 65534 e ∙ ap (λ (b : Bool). pick b 0 (4 + 2 * said (drop 2 rest))) q),
      )
      go false q = (λ c. inl (there.0 c), back)
        where
          there : Cut rest ↔ (length rest < 4 + 2 * said (drop 2 rest))
          there = cut_by (4 + 2 * said (drop 2 rest)) (by_first 65534 e ∙ ap (λ (b : Bool). pick b 0 (4 + 2 * said (drop 2 rest))) q) (omega arith)

          back : (length rest < 4 + 2 * said (drop 2 rest)) ⊎ (65531 < said (drop 2 rest)) → Cut rest
          back (inl h) = there.1 h
          back (inr h) = absurd (omega (arith, h, ltb-false 65531 (said (drop 2 rest)) q))

  -- an issue and a decline are their mark alone
  pub cut_issue : said rest ≡ 65533 → Cut rest ↔ (length rest < 2)
  cut_issue e = cut_by 2 (by_first 65533 e) (omega arith)

  pub cut_decline : said rest ≡ 65532 → Cut rest ↔ (length rest < 2)
  cut_decline e = cut_by 2 (by_first 65532 e) (omega arith)

  -- one byte, and none
  pub cut_short : length rest < 2 → Cut rest
  cut_short h = go (head_of (said rest)) refl
    where
      go : (x : Head) → head_of (said rest) ≡ x → Cut rest
      go x e = ap (λ (y : Head). and (ltb 0 (size_by y (said rest) (said (drop 2 rest)))) (leb (size_by y (said rest) (said (drop 2 rest))) (length rest))) e ∙ by_head x
        where
          half : (b : Bool) → and (ltb 0 (pick b 0 (4 + 2 * said (drop 2 rest)))) (leb (pick b 0 (4 + 2 * said (drop 2 rest))) (length rest)) ≡ false
          half true = refl
          half false = (cut_size (4 + 2 * said (drop 2 rest)) (length rest) (omega arith)).1 (omega arith)

          by_head : (x : Head) → and (ltb 0 (size_by x (said rest) (said (drop 2 rest)))) (leb (size_by x (said rest) (said (drop 2 rest))) (length rest)) ≡ false
          by_head head.Count = (cut_size (2 + 2 * said rest) (length rest) (omega arith)).1 (omega arith)
          by_head head.Gone = (cut_size 4 (length rest) (omega arith)).1 (omega arith)
          by_head head.Choose = half (ltb 65531 (said (drop 2 rest)))
          by_head head.Issue = (cut_size 2 (length rest) (omega arith)).1 (omega arith)
          by_head head.Decline = (cut_size 2 (length rest) (omega arith)).1 (omega arith)

-- ---- the list is read back

count_back : (n : ℕ) → n % 256 + 256 * (n / 256) ≡ n
count_back n = omega arith

none_in : (rest : List ℕ) → Cut rest → (k : ℕ) → entries_in k rest ≡ []
unfolding entries_in
none_in rest c zero = refl
none_in rest c (suc k) = rw c

one_in_lem : (l next : List ℕ) (e : Event) (k : ℕ) → is_whole l ≡ true → entry_of l ≡ e → drop (size_of l) l ≡ next → entries_in (suc k) l ≡ e ∷ entries_in k next
unfolding entries_in
one_in_lem l next e k w first others = rw w (ap₂ (λ (x : Event) (y : List ℕ). x ∷ entries_in k y) first others)

is_whole_lem : (l : List ℕ) (size : ℕ) → size_of l ≡ size → 0 < size → size ≤ length l → is_whole l ≡ true
is_whole_lem l size e h k = ap (λ (x : ℕ). and (ltb 0 x) (leb x (length l))) e ∙ ap₂ and (lt-ltb 0 size h) (le-leb size (length l) k)

module _ (tr next : List ℕ) (k : ℕ) (h : length tr < 65532) where
  abbrev body : List ℕ
  body = pairs_of tr ++ next

  long : length body ≡ 2 * length tr + length next
  long = length-append (pairs_of tr) next ∙ ap (λ (x : ℕ). x + length next) (length_pairs tr)

  behind : drop (2 * length tr) body ≡ next
  behind = drop_at (pairs_of tr) next (2 * length tr) (length_pairs tr)

  -- a trace of fewer than 65,532 symbols, and what follows it
  trace_in : entries_in (suc k) (length tr % 256 ∷ length tr / 256 ∷ body) ≡ Received Step tr ∷ entries_in k next
  trace_in =
      let l : List ℕ = length tr % 256 ∷ length tr / 256 ∷ body in
      let n : said l ≡ length tr = count_back (length tr) in
      let t : head_of (said l) ≡ head.Count = counts (said l) (omega (arith, n, h)) in
      let size : size_of l ≡ 2 + 2 * length tr = ap (λ (x : Head). size_by x (said l) (said (drop 2 l))) t ∙ ap (λ (x : ℕ). 2 + 2 * x) n in
      let w : is_whole l ≡ true = is_whole_lem l (2 + 2 * length tr) size (omega arith) (omega (arith, long)) in
      let first : entry_of l ≡ Received Step tr = ap (λ (x : Head). entry_by x l) t ∙ ap (Received Step) (ap (λ (x : ℕ). symbols_in x body) n ∙ pairs_back tr next) in
      let s : size_of l ≡ suc (suc (2 * length tr)) = omega (arith, size) in
      let others : drop (size_of l) l ≡ next = ap (λ (x : ℕ). drop x l) s ∙ behind in
      one_in_lem l next (Received Step tr) k w first others

  -- and for the first half of a step
  half_in : entries_in (suc k) (0xFE ∷ 0xFF ∷ length tr % 256 ∷ length tr / 256 ∷ body) ≡ Received Choose tr ∷ entries_in k next
  half_in =
      let l : List ℕ = 0xFE ∷ 0xFF ∷ length tr % 256 ∷ length tr / 256 ∷ body in
      let n : said (drop 2 l) ≡ length tr = count_back (length tr) in
      let t : ltb 65531 (length tr) ≡ false = le-ltb 65531 (length tr) (omega (arith, h)) in
      let size : size_of l ≡ 4 + 2 * length tr = ap half_size n ∙ ap (λ (b : Bool). pick b 0 (4 + 2 * length tr)) t in
      let w : is_whole l ≡ true = is_whole_lem l (4 + 2 * length tr) size (omega arith) (omega (arith, long)) in
      let first : entry_of l ≡ Received Choose tr = ap (Received Choose) (ap (λ (x : ℕ). symbols_in x body) n ∙ pairs_back tr next) in
      let s : size_of l ≡ suc (suc (suc (suc (2 * length tr)))) = omega (arith, size) in
      let others : drop (size_of l) l ≡ next = ap (λ (x : ℕ). drop x l) s ∙ behind in
      one_in_lem l next (Received Choose tr) k w first others

-- a report, and what follows it
report_in : (a : ℕ) (next : List ℕ) (k : ℕ) → entries_in (suc k) (0xFF ∷ 0xFF ∷ a % 256 ∷ a / 256 ∷ next) ≡ Gone a ∷ entries_in k next
report_in a next k =
    let l : List ℕ = 0xFF ∷ 0xFF ∷ a % 256 ∷ a / 256 ∷ next in
    one_in_lem l next (Gone a) k (le-leb 4 (length l) (omega arith)) (ap Gone (count_back a)) refl

-- an issue, a decline
issue_in : (next : List ℕ) (k : ℕ) → entries_in (suc k) (0xFD ∷ 0xFF ∷ next) ≡ Issue ∷ entries_in k next
issue_in next k = let l : List ℕ = 0xFD ∷ 0xFF ∷ next in one_in_lem l next Issue k (le-leb 2 (length l) (omega arith)) refl refl

decline_in : (next : List ℕ) (k : ℕ) → entries_in (suc k) (0xFC ∷ 0xFF ∷ next) ≡ Decline ∷ entries_in k next
decline_in next k = let l : List ℕ = 0xFC ∷ 0xFF ∷ next in one_in_lem l next Decline k (le-leb 2 (length l) (omega arith)) refl refl

-- with any fuel that is enough: each entry takes two bytes at least
entries_in_lem : (es : List Event) (rest : List ℕ) → Listed es → Cut rest → (k : ℕ) → length (list_bytes es ++ rest) ≤ k → entries_in k (list_bytes es ++ rest) ≡ es
unfolding list_bytes
entries_in_lem [] rest v c k h = none_in rest c k
entries_in_lem (Start ∷ es) rest v c k h = absurd v
entries_in_lem (Received Step tr ∷ es) rest v c zero h = absurd (omega arith)
entries_in_lem (Received Step tr ∷ es) rest v c (suc k) h =
    let next : List ℕ = list_bytes es ++ rest in
    let e : pairs_of tr ++ list_bytes es ++ rest ≡ pairs_of tr ++ next = append_assoc (pairs_of tr) (list_bytes es) rest in
    let m : length (pairs_of tr ++ list_bytes es ++ rest) ≡ length (pairs_of tr) + length next = ap length e ∙ length-append (pairs_of tr) next in
    ap (λ (x : List ℕ). entries_in (suc k) (length tr % 256 ∷ length tr / 256 ∷ x)) e
    ∙ trace_in tr next k v.0
    ∙ ap (λ (xs : List Event). Received Step tr ∷ xs) (entries_in_lem es rest v.1 c k (omega (arith, m)))
entries_in_lem (Received Choose tr ∷ es) rest v c zero h = absurd (omega arith)
entries_in_lem (Received Choose tr ∷ es) rest v c (suc k) h =
    let next : List ℕ = list_bytes es ++ rest in
    let e : pairs_of tr ++ list_bytes es ++ rest ≡ pairs_of tr ++ next = append_assoc (pairs_of tr) (list_bytes es) rest in
    let m : length (pairs_of tr ++ list_bytes es ++ rest) ≡ length (pairs_of tr) + length next = ap length e ∙ length-append (pairs_of tr) next in
    ap (λ (x : List ℕ). entries_in (suc k) (0xFE ∷ 0xFF ∷ length tr % 256 ∷ length tr / 256 ∷ x)) e
    ∙ half_in tr next k v.0
    ∙ ap (λ (xs : List Event). Received Choose tr ∷ xs) (entries_in_lem es rest v.1 c k (omega (arith, m)))
entries_in_lem (Gone a ∷ es) rest v c zero h = absurd (omega arith)
entries_in_lem (Gone a ∷ es) rest v c (suc k) h =
    report_in a (list_bytes es ++ rest) k ∙ ap (λ (xs : List Event). Gone a ∷ xs) (entries_in_lem es rest v c k (omega arith))
entries_in_lem (Issue ∷ es) rest v c zero h = absurd (omega arith)
entries_in_lem (Issue ∷ es) rest v c (suc k) h =
    issue_in (list_bytes es ++ rest) k ∙ ap (λ (xs : List Event). Issue ∷ xs) (entries_in_lem es rest v c k (omega arith))
entries_in_lem (Decline ∷ es) rest v c zero h = absurd (omega arith)
entries_in_lem (Decline ∷ es) rest v c (suc k) h =
    decline_in (list_bytes es ++ rest) k ∙ ap (λ (xs : List Event). Decline ∷ xs) (entries_in_lem es rest v c k (omega arith))

-- the list is read back, whatever is left of an entry that is cut
pub entries_back : (es : List Event) (rest : List ℕ) → Listed es → Cut rest → entries_in (length (list_bytes es ++ rest)) (list_bytes es ++ rest) ≡ es
entries_back es rest v c = entries_in_lem es rest v c (length (list_bytes es ++ rest)) (omega arith)

-- a pass over its bytes takes its entries one after the other
pub pass_steps : (occupied : Pool) (last : ℕ) (es : List Event) (rest : List ℕ) → Listed es → Cut rest
    → pass_over occupied last (list_bytes es ++ rest) ≡ steps_over (started (new_controller occupied last)) es
pass_steps occupied last es rest v c = ap (steps_over (started (new_controller occupied last))) (entries_back es rest v c)

-- and then further ones
steps_more : (st : Stepped) (es xs : List Event) → steps_over st (es ++ xs) ≡ steps_over (steps_over st es) xs
unfolding steps_over
steps_more st [] xs = refl
steps_more st (e ∷ es) xs = steps_more (after_event st e) es xs

pub pass_more : (occupied : Pool) (last : ℕ) (es xs : List Event) (rest rest' : List ℕ) → Listed es → Listed xs → Cut rest → Cut rest'
    → pass_over occupied last (list_bytes (es ++ xs) ++ rest') ≡ steps_over (pass_over occupied last (list_bytes es ++ rest)) xs
pass_more occupied last es xs rest rest' v w cut cut' =
    pass_steps occupied last (es ++ xs) rest' (listed_both es xs v w) cut' ∙ steps_more _ es xs
    ∙ sym (ap (λ (st : Stepped). steps_over st xs) (pass_steps occupied last es rest v cut))
