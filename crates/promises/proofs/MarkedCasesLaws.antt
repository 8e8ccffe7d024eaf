-- The marked cases by themselves: what each run of M8 and M10 comes to, and the pieces of the others.
use Rattle.std.specs.Prelude.{◌≡◌, refl, Bool, true, false, List, [], ◌∷◌, ◌++◌, ℕ, ◌+◌, ◌*◌, ◌^◌, ◌≤◌, ◌<◌, ltb, length, drop, replicate, Ok, Option}
use Rattle.std.proofs.Common.{ap, ap₂, ◌∙◌, arith, ltb-true}
use Rattle.lists.specs.AbsurdLaws.{zero_is_one}
use Rattle.lists.specs.Choice.{pick}
use Rattle.lists.specs.Each.{Each, Bytes}
use Rattle.trace.specs.Allowed.{lengths_fit, allowed}
use Rattle.trace.specs.Rows.{message}
use Rattle.trace.specs.declared.shape.Shape.{Shape}
use Rattle.trace.specs.Trace.{Message}
use Rattle.encode.specs.Encode.{encode_number, refused_by, encoded_by, encoded, Wrote}
use Rattle.encode.specs.Encode.{Encoded}
use Rattle.scan.specs.Numbers.{decode_number}
use Rattle.scan.specs.Run.{run, finish, decoded_by}
use Rattle.pool.specs.Counts.{count}
use Rattle.pool.specs.Digits.{digit, plus}
use Rattle.pool.specs.Free.{used, free_from}
use Rattle.pool.specs.NextFree.{next_free}
use Rattle.pool.specs.Pools.{member, with_address, union_of}
use Rattle.pool.specs.Start.{empty_pool, reserved_pool, listed_pool, starting_pool, barred_pool}
use Rattle.pool.specs.declared.Pool.{Pool}
use Rattle.udid.specs.Bytes.{number_from, bytes_of, bytes_from, udid_bytes, udid_at}
use Rattle.slots.specs.Slots.{held_at, with_binding, no_bindings}
use Rattle.arp.specs.Numbers.{command_number}
use Rattle.targets.specs.AdmissionLaws.{admitted_targets}
use Rattle.targets.specs.Records.{target_at, targets_of, put_target, records_with}
use Rattle.targets.specs.Refusals.{checked_list}
use Rattle.bindings.proofs.BufferLaws.{bytes_there}
use Rattle.udid.specs.declared.Udid.{Udid}
use Rattle.bindings.specs.Entries.{entry_bytes, buffer_of, bound_from, bound_set}
use Rattle.rule.specs.Bus.{World}
use Rattle.rule.specs.PassEndLaws.{demand_3}
use Rattle.rule.specs.PassEnd.{pass_end}
use Rattle.rule.specs.PlainRule.{is_picked_for, plain_choice}
use Rattle.bus.specs.Run.{ModelEnd, ended_end, model_end}
use Rattle.report.specs.Report.{no_udid, number_in, udid_in, entry_at}
use Rattle.arp.proofs.LastPickLaws.{last_pick_is}
use Rattle.bus.specs.RunLaws.{end_checked_lem, end_going}
use Rattle.bindings.specs.declared.answer.ModelAnswer.{ModelAnswer}
use Rattle.promises.specs.MarkedWords.{identifier, holding, windows, Shows}

-- ---- the model's cases

-- a run: the occupied addresses, the last pick and the records lent; the answer, the records after it, and whose bytes stand at which addresses
pub record Run : Type 0 where
  occupied : Pool
  last : ℕ
  records : List ℕ
  answer : ModelAnswer
  after : List ℕ
  places : List ℕ
  buffer : List ℕ

-- 80h.. with FFh, 00h.. fixed at 09h, 40h.. holding 20h, nothing occupied: 09h fixed, 20h kept, 0Dh picked for 80h..; four Get UDIDs
abbrev pub run8 : Run
run8 = record {
  occupied = empty_pool;
  last = 127;
  records = holding 0x80 0xFF 0 ++ holding 0x00 0x13 0 ++ holding 0x40 0x41 0;
  answer = record { answer = 0; place = 0; udid = no_udid; bound = record { low = 2 ^ 0x09 + 2 ^ 0x0D + 2 ^ 0x20; high = 0 }; count = 3; gets = 4; picked = 0x0D };
  after = holding 0x80 0x1B 1 ++ holding 0x00 0x13 1 ++ holding 0x40 0x41 1;
  places = 0x09 ∷ 0x0A ∷ 0x0D ∷ 0x20 ∷ [];
  buffer = identifier 0x00 ++ replicate 16 0 ++ identifier 0x80 ++ identifier 0x40;
}

-- two movable targets, the smaller with none, the larger holding 09h: 0Dh and 0Eh
abbrev pub run9 : Run
run9 = record {
  occupied = empty_pool;
  last = 127;
  records = holding 0x40 0xFF 0 ++ holding 0x80 0x13 0;
  answer = record { answer = 0; place = 0; udid = no_udid; bound = record { low = 2 ^ 0x0D + 2 ^ 0x0E; high = 0 }; count = 2; gets = 3; picked = 0x0E };
  after = holding 0x40 0x1B 1 ++ holding 0x80 0x1D 1;
  places = 0x09 ∷ 0x0D ∷ 0x0E ∷ [];
  buffer = replicate 16 0 ++ identifier 0x40 ++ identifier 0x80;
}

-- all 128 occupied, one movable target: 13, none bound, one Get UDID
abbrev pub run10 : Run
run10 = record {
  occupied = record { low = 18446744073709551615; high = 18446744073709551615 };
  last = 127;
  records = holding 0x80 0x41 1;
  answer = record { answer = 13; place = 0; udid = record { high = 0x80 * 2 ^ 56; low = 1 }; bound = empty_pool; count = 0; gets = 1; picked = 127 };
  after = holding 0x80 0x41 0;
  places = 0x09 ∷ 0x20 ∷ [];
  buffer = replicate 32 0;
}

-- 0Dh was picked last, and is free: the newcomer gets 0Eh
abbrev pub run_vacated : Run
run_vacated = record {
  occupied = empty_pool;
  last = 0x0D;
  records = holding 0x80 0xFF 0;
  answer = record { answer = 0; place = 0; udid = no_udid; bound = record { low = 2 ^ 0x0E; high = 0 }; count = 1; gets = 2; picked = 0x0E };
  after = holding 0x80 0x1D 1;
  places = 0x0D ∷ 0x0E ∷ [];
  buffer = replicate 16 0 ++ identifier 0x80;
}

-- after 77h the way goes round, to 0Dh
abbrev pub run_round : Run
run_round = record {
  occupied = empty_pool;
  last = 0x77;
  records = holding 0x80 0xFF 0;
  answer = record { answer = 0; place = 0; udid = no_udid; bound = record { low = 2 ^ 0x0D; high = 0 }; count = 1; gets = 2; picked = 0x0D };
  after = holding 0x80 0x1B 1;
  places = 0x0D ∷ 0x0E ∷ [];
  buffer = identifier 0x80 ++ replicate 16 0;
}

-- bytes, by computing
abbrev are_bytes : List ℕ → Bool
are_bytes [] = true
are_bytes (x ∷ xs) = pick (ltb x 256) (are_bytes xs) false

computed : (xs : List ℕ) → are_bytes xs ≡ true → Bytes xs
computed [] h = tt
computed (x ∷ xs) h = go (ltb x 256) refl h (λ k. computed xs k)
  where
    go : (t : Bool) → ltb x 256 ≡ t → pick t (are_bytes xs) false ≡ true → (are_bytes xs ≡ true → Bytes xs) → Bytes (x ∷ xs)
    go true e k ih = (ltb-true x 256 e, ih k)
    go false e k ih = zero_is_one (cc k)

-- ---- by demand 3 the run's end is the plain rule's, and that is computed

abbrev end_of : Run → World
end_of m = pass_end m.occupied m.last (targets_of m.records)

-- the lists of some numbers, one after another
abbrev joined : (ℕ → List ℕ) → List ℕ → List ℕ
joined f [] = []
joined f (x ∷ xs) = f x ++ joined f xs

pub record Comes (m : Run) : Type 0 where
  let_in : m.last < 128
  bytes : Bytes m.records
  admitted : checked_list (barred_pool m.occupied) m.records ≡ Ok tt
  number : number_in (command_number (end_of m).now.command) ≡ m.answer.answer
  nowhere : 0 ≡ m.answer.place
  asker : udid_in (command_number (end_of m).now.command) ≡ m.answer.udid
  bound : bound_set (entry_at (end_of m).now.state.slots) ≡ m.answer.bound
  counted : used m.answer.bound ≡ m.answer.count
  gets : (end_of m).now.state.gets ≡ m.answer.gets
  picked : (end_of m).now.state.picked ≡ m.answer.picked
  stored : records_with (end_of m).targets m.records ≡ m.after
  small : Each (λ (a : ℕ). a < 128) m.places
  shown : joined (λ (a : ℕ). entry_bytes (entry_at (end_of m).now.state.slots a)) m.places ≡ m.buffer

windows_are : (held : ℕ → Option Udid) (rest as' : List ℕ) → Each (λ (a : ℕ). a < 128) as' → windows (buffer_of held ++ rest) as' ≡ joined (λ (a : ℕ). entry_bytes (held a)) as'
windows_are held rest [] h = refl
windows_are held rest (a ∷ as') h = ap₂ (λ (x y : List ℕ). x ++ y) (bytes_there held rest a h.0) (windows_are held rest as' h.1)

pub shows : (m : Run) → Comes m → (b : List ℕ) → 2048 ≤ length b → Shows (model_end m.occupied m.last m.records b) m.answer m.after m.places m.buffer
shows m v b h =
    let e : model_end m.occupied m.last m.records b ≡ ended_end (end_of m) m.records b =
    end_going m.occupied m.last m.records b v.let_in
    ∙ end_checked_lem m.occupied m.last m.records b (Ok tt) h v.admitted
    ∙ ap (λ (w : World). ended_end w m.records b) (demand_3 m.occupied m.last (targets_of m.records) (admitted_targets (barred_pool m.occupied) m.records v.bytes v.admitted)
    ∙ ap (λ (l : ℕ). pass_end m.occupied l (targets_of m.records)) (last_pick_is m.last v.let_in)) in (
      ap (λ (x : ModelEnd). x.answer) e
          ∙ (λ i. record { answer = v.number i; place = v.nowhere i; udid = v.asker i; bound = v.bound i; count = (ap used v.bound ∙ v.counted) i; gets = v.gets i; picked = v.picked i }),
      ap (λ (x : ModelEnd). x.records) e ∙ v.stored,
      ap (λ (x : ModelEnd). windows x.bindings m.places) e
          ∙ windows_are (entry_at (end_of m).now.state.slots) (drop 2048 b) m.places v.small ∙ v.shown,
    )

pub comes_8 : Comes run8
unfolding checked_list starting_pool barred_pool union_of listed_pool reserved_pool member digit with_address plus free_from next_free is_picked_for number_from bytes_from bytes_of udid_at udid_bytes target_at plain_choice put_target bound_from used count held_at with_binding no_bindings
comes_8 = record {
  let_in = omega arith;
  bytes = computed run8.records refl;
  admitted = refl;
  number = refl;
  nowhere = refl;
  asker = refl;
  bound = refl;
  counted = refl;
  gets = refl;
  picked = refl;
  stored = refl;
  small = (omega arith, (omega arith, (omega arith, (omega arith, tt))));
  shown = refl;
}

pub comes_9 : Comes run9
unfolding checked_list starting_pool barred_pool union_of listed_pool reserved_pool member digit with_address plus free_from next_free is_picked_for number_from bytes_from bytes_of udid_at udid_bytes target_at plain_choice put_target bound_from used count held_at with_binding no_bindings
comes_9 = record {
  let_in = omega arith;
  bytes = computed run9.records refl;
  admitted = refl;
  number = refl;
  nowhere = refl;
  asker = refl;
  bound = refl;
  counted = refl;
  gets = refl;
  picked = refl;
  stored = refl;
  small = (omega arith, (omega arith, (omega arith, tt)));
  shown = refl;
}

pub comes_10 : Comes run10
unfolding checked_list starting_pool barred_pool union_of listed_pool reserved_pool member digit with_address plus free_from next_free is_picked_for number_from bytes_from bytes_of udid_at udid_bytes target_at plain_choice put_target bound_from used count held_at with_binding no_bindings
comes_10 = record {
  let_in = omega arith;
  bytes = computed run10.records refl;
  admitted = refl;
  number = refl;
  nowhere = refl;
  asker = refl;
  bound = refl;
  counted = refl;
  gets = refl;
  picked = refl;
  stored = refl;
  small = (omega arith, (omega arith, tt));
  shown = refl;
}

pub comes_vacated : Comes run_vacated
unfolding checked_list starting_pool barred_pool union_of listed_pool reserved_pool member digit with_address plus free_from next_free is_picked_for number_from bytes_from bytes_of udid_at udid_bytes target_at plain_choice put_target bound_from used count held_at with_binding no_bindings
comes_vacated = record {
  let_in = omega arith;
  bytes = computed run_vacated.records refl;
  admitted = refl;
  number = refl;
  nowhere = refl;
  asker = refl;
  bound = refl;
  counted = refl;
  gets = refl;
  picked = refl;
  stored = refl;
  small = (omega arith, (omega arith, tt));
  shown = refl;
}

pub comes_round : Comes run_round
unfolding checked_list starting_pool barred_pool union_of listed_pool reserved_pool member digit with_address plus free_from next_free is_picked_for number_from bytes_from bytes_of udid_at udid_bytes target_at plain_choice put_target bound_from used count held_at with_binding no_bindings
comes_round = record {
  let_in = omega arith;
  bytes = computed run_round.records refl;
  admitted = refl;
  number = refl;
  nowhere = refl;
  asker = refl;
  bound = refl;
  counted = refl;
  gets = refl;
  picked = refl;
  stored = refl;
  small = (omega arith, (omega arith, tt));
  shown = refl;
}

-- ---- the codec's cases

-- whatever the shape, without PEC and with it
pub empty_trace : (protocol : ℕ) (sh : Shape) (pec : Bool) → decode_number (decoded_by protocol sh pec []) ≡ (4, 0)
unfolding decoded_by run finish
empty_trace protocol sh pec = refl

abbrev pub block : ℕ → Message
block n = message 0x10 0 7 (replicate 200 0) (replicate n 0)

-- the number by the room
pub numbered : (pec : Bool) (t : Message) (n v : ℕ) → encode_number (encoded 10 pec t 525) ≡ (n, v) → (before : List ℕ) (r : Encoded) (after : List ℕ) → length before ≡ 525
    → Wrote 10 pec t before r after → encode_number r ≡ (n, v)
numbered pec t n v e before r after l w = ap encode_number w.answer ∙ ap (λ (k : ℕ). encode_number (encoded 10 pec t k)) l ∙ e

pub too_many : (pec : Bool) → encode_number (encoded 10 pec (block 56) 525) ≡ (1, 0)
unfolding encoded_by refused_by allowed lengths_fit
too_many true = refl
too_many false = refl

pub just_enough : (encode_number (encoded 10 false (block 55) 525) ≡ (0, 523)) × (encode_number (encoded 10 true (block 55) 525) ≡ (0, 525))
unfolding encoded_by refused_by allowed lengths_fit
just_enough = (refl, refl)
