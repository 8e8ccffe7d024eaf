-- The writers of a part and of the phases: the room that each call asks for, and that the pieces are what was to be written.
use mathlib.Core.Path.{◌≡◌, refl, sym, ap, ap₂, ◌∙◌}
use mathlib.Core.Bool.{Bool, true, false}
use mathlib.Core.List.{List, [], ◌∷◌, ◌++◌}
use Prim.Native.Nat.{ℕ, ◌+◌, ◌-◌, ◌*◌, ◌≤◌, ◌<◌}
use native.Mathlib.Omega.{arith}
use lib.ListN.{length, take, set, length-append, length-set}
use lib.Seq.{length-take-le}
use Rattle.lists.specs.Onto.{onto}
use Rattle.wire.specs.Symbols.{START, STOP, ACK, NACK}
use Rattle.trace.specs.declared.shape.Part.{Part}
use Rattle.trace.specs.declared.shape.Shape.{Shape}
use Rattle.trace.specs.Shapes.{is_counted, writes, reads}
use Rattle.trace.specs.Trace.{acked, nacked, in_place}
use Rattle.trace.proofs.LengthLaws.{length_acked, length_nacked}
use Rattle.encode.specs.Pieces.{count_byte, part_bytes, write_bytes, write_phase, repeated_start, read_bytes, read_phase, ending, rest}
use Rattle.encode.proofs.WriterLaws.{put_start, onto_next, onto_next_acked, onto_nack_stop}

-- a part at a place i of the output l: first its count, then its data
module _ (l s : List ℕ) (i : ℕ) (a : Part) (h : Bool) (k : ℕ) (eh : h ≡ is_counted a) (ek : k ≡ count_byte s) (room : i + 2 * length (part_bytes a s) ≤ length l) where
  same_part : in_place h k ++ s ≡ part_bytes a s
  same_part = ap₂ (λ (b : Bool) (j : ℕ). in_place b j ++ s) eh ek

  part_length : length (part_bytes a s) ≡ length (in_place h k) + length s
  part_length = sym (ap length same_part) ∙ length-append (in_place h k) s

  pub count_asks : i + 2 * length (in_place h k) ≤ length l
  count_asks = omega (arith, part_length)

  module _ (n : ℕ) (l₁ : List ℕ) (en : n ≡ i + 2 * length (in_place h k)) (e₁ : l₁ ≡ onto (take i l ++ acked (in_place h k)) l) (kept : length l₁ ≡ length l) where
    pub data_asks : n + 2 * length s ≤ length l₁
    data_asks = omega (arith, part_length)

    pub part_put : (m : ℕ) (l₂ : List ℕ) → m ≡ n + 2 * length s → l₂ ≡ onto (take n l₁ ++ acked s) l₁
        → (m ≡ i + 2 * length (part_bytes a s)) × (l₂ ≡ onto (take i l ++ acked (part_bytes a s)) l)
    part_put m l₂ em e₂ = (
      omega (arith, part_length),
      onto_next_acked (take i l) (in_place h k) s l l₁ l₂ n e₁ (omega (arith, length-take-le i l (omega arith))) e₂
          ∙ ap (λ (t : List ℕ). onto (take i l ++ acked t) l) same_part,
    )

-- the write phase at the front of the output l
module _ (l s : List ℕ) (sh : Shape) (f c : ℕ) (room : 1 + 2 * length (write_bytes sh f c s) ≤ length l) where
  abbrev pub opened : List ℕ
  opened = set (set (set l 0 START) 1 f) 2 ACK

  pub opened_length : length opened ≡ length l
  opened_length = simp length-set

  write_length : length (write_bytes sh f c s) ≡ 1 + (length (in_place sh.command c) + length (part_bytes sh.sent s))
  write_length = omega (arith, length-append (in_place sh.command c) (part_bytes sh.sent s))

  pub start_asks : 3 ≤ length l
  start_asks = omega (arith, write_length)

  pub command_asks : 3 + 2 * length (in_place sh.command c) ≤ length opened
  command_asks = omega (arith, write_length, opened_length)

  module _ (n : ℕ) (l₁ : List ℕ) (en : n ≡ 3 + 2 * length (in_place sh.command c)) (e₁ : l₁ ≡ onto (take 3 opened ++ acked (in_place sh.command c)) opened)
      (kept : length l₁ ≡ length opened) where
    pub sent_asks : n + 2 * length (part_bytes sh.sent s) ≤ length l₁
    sent_asks = omega (arith, write_length, opened_length)

    pub phase_put : (m : ℕ) (l₂ : List ℕ) → m ≡ n + 2 * length (part_bytes sh.sent s) → l₂ ≡ onto (take n l₁ ++ acked (part_bytes sh.sent s)) l₁
        → (m ≡ 1 + 2 * length (write_bytes sh f c s)) × (l₂ ≡ onto (write_phase sh f c s) l)
    phase_put m l₂ em e₂ =
        let first : l₁ ≡ onto (START ∷ acked (f ∷ in_place sh.command c)) l =
        onto_next_acked (START ∷ []) (f ∷ []) (in_place sh.command c) l opened l₁ 3 (put_start l f start_asks) refl e₁ in (
          omega (arith, write_length),
          onto_next_acked (START ∷ []) (f ∷ in_place sh.command c) (part_bytes sh.sent s) l l₁ l₂ n first (omega arith) e₂,
        )

-- the read phase at the front of the output l
module _ (l r : List ℕ) (w : Bool) (g : ℕ) (a : Part) (p : Bool) (y : ℕ) (room : length (repeated_start w g) + (2 * length (read_bytes a r p y) + 1) ≤ length l) where
  read_length : length (read_bytes a r p y) ≡ length (part_bytes a r) + length (in_place p y)
  read_length = length-append (part_bytes a r) (in_place p y)

  pub turn_asks : length (repeated_start w g) ≤ length l
  turn_asks = omega arith

  module _ (n : ℕ) (l₁ : List ℕ) (en : n ≡ length (repeated_start w g)) (e₁ : l₁ ≡ onto (repeated_start w g) l) (k₁ : length l₁ ≡ length l) where
    pub received_asks : n + 2 * length (part_bytes a r) ≤ length l₁
    received_asks = omega (arith, read_length)

    module _ (m : ℕ) (l₂ : List ℕ) (em : m ≡ n + 2 * length (part_bytes a r)) (e₂ : l₂ ≡ onto (take n l₁ ++ acked (part_bytes a r)) l₁) (k₂ : length l₂ ≡ length l₁) where
      pub pec_asks : m + 2 * length (in_place p y) ≤ length l₂
      pec_asks = omega (arith, read_length)

      module _ (e : ℕ) (l₃ : List ℕ) (ee : e ≡ m + 2 * length (in_place p y)) (e₃ : l₃ ≡ onto (take m l₂ ++ acked (in_place p y)) l₂) (k₃ : length l₃ ≡ length l₂)
          (some : 0 < length (read_bytes a r p y)) where
        at_end : e ≡ length (repeated_start w g) + 2 * length (read_bytes a r p y)
        at_end = omega (arith, read_length)

        pub stop_asks : (0 < e) × (e < length l₃)
        stop_asks = (omega (arith, at_end), omega (arith, at_end))

        pub read_put : (l₄ : List ℕ) → l₄ ≡ set (set l₃ (e - 1) NACK) e STOP → l₄ ≡ onto (repeated_start w g ++ read_phase (read_bytes a r p y)) l
        read_put l₄ e₄ =
            let two : l₂ ≡ onto (repeated_start w g ++ acked (part_bytes a r)) l = onto_next (repeated_start w g) (acked (part_bytes a r)) l l₁ l₂ n e₁ (sym en) e₂ in
            let three : l₃ ≡ onto (repeated_start w g ++ acked (read_bytes a r p y)) l =
            onto_next_acked (repeated_start w g) (part_bytes a r) (in_place p y) l l₂ l₃ m two (omega arith) e₃ in
            e₄ ∙ ap (λ (t : List ℕ). set (set t (e - 1) NACK) e STOP) three ∙ onto_nack_stop (repeated_start w g) (read_bytes a r p y) l e some at_end (omega (arith, at_end))

-- what follows the write phase: which of the two it is
module _ (sh : Shape) (g : ℕ) (r : List ℕ) (p : Bool) (y : ℕ) where
  phase_length : (zs : List ℕ) → length (read_phase zs) ≡ 2 * length zs + 1
  phase_length zs = length-append (nacked zs) (STOP ∷ []) ∙ ap (λ (n : ℕ). n + 1) (length_nacked zs)

  pub read_rest : (w : Bool) → reads sh ≡ true → w ≡ writes sh → repeated_start w g ++ read_phase (read_bytes sh.received r p y) ≡ rest sh g r p y
  read_rest w er ew = rw er (ap (λ (b : Bool). repeated_start b g ++ read_phase (read_bytes sh.received r p y)) ew)

  pub end_rest : reads sh ≡ false → ending p y ≡ rest sh g r p y
  end_rest er = rw er

  module _ (m : ℕ) (room : length (rest sh g r p y) ≤ m) where
    pub read_asks : (w : Bool) → reads sh ≡ true → w ≡ writes sh → length (repeated_start w g) + (2 * length (read_bytes sh.received r p y) + 1) ≤ m
    read_asks w er ew =
        let zs : List ℕ = read_bytes sh.received r p y in
        omega (arith, ap length (read_rest w er ew), length-append (repeated_start w g) (read_phase zs), phase_length zs)

    pub end_asks : reads sh ≡ false → 2 * length (in_place p y) < m
    end_asks er = omega (arith, ap length (end_rest er), length-append (acked (in_place p y)) (STOP ∷ []), length_acked (in_place p y))
