-- The messages of the three commands are valid, and their traces are those of specs/CommandTraces.antt, symbol by symbol.
use Rattle.std.specs.Prelude.{ℕ, ◌*◌, ◌%◌, ◌≤◌, ◌<◌, ◌≡◌, refl, true, List, [], ◌∷◌, ◌++◌, length, get_or, drop}
use Rattle.std.proofs.Common.{sym, ap, ap₂, ◌∙◌, mod-eq_of_lt, arith, length-append, length-drop}
use Rattle.std.proofs.Math.Seq.{split_at}
use Rattle.lists.specs.Each.{Bytes}
use Rattle.lists.specs.EachLaws.{append_bytes}
use Rattle.pec.specs.Pec.{bit_step, pec_step, pec_from, pec_of}
use Rattle.wire.specs.declared.address.Address.{Address}
use Rattle.trace.proofs.RowsLaws.{rows}
use Rattle.trace.specs.Lengths.{trace_length}
use Rattle.trace.proofs.LengthLaws.{trace_length_lem}
use Rattle.trace.specs.Shapes.{shape_of}
use Rattle.trace.specs.Trace.{acked, Valid}
use Rattle.udid.specs.Bytes.{udid_bytes, udid_at}
use Rattle.udid.proofs.UdidLaws.{udid_bytes_lem, length_udid, bytes_back, fits_at}
use Rattle.udid.specs.Udids.{Fits}
use Rattle.udid.proofs.WindowLaws.{byte_at}
use Rattle.udid.specs.declared.Udid.{Udid}
use Rattle.commands.specs.Codes.{send_byte, block_read, block_write}
use Rattle.commands.specs.Requests.{assign_data, message_of, trace_of}
use Rattle.commands.specs.CommandTraces.{reply_trace, prepare_trace, assign_trace}
use Rattle.commands.specs.CommandRows.{CommandRows}
use Rattle.commands.specs.declared.command.Command.TheVariants.{Prepare, GetUdid, Assign}
use Rattle.commands.specs.declared.command.Handed.TheVariants.{Send}

-- ---- the three messages are valid

pub valid_prepare : Valid (shape_of send_byte) (message_of (Send Prepare) [])
valid_prepare = record {
  address = omega arith;
  direction = refl;
  command = refl;
  sent_length_lem = refl;
  sent_bytes = (omega arith, tt);
  received_length_lem = refl;
  received_bytes = tt;
  counts = omega arith;
}

pub valid_get : (xs : List ℕ) → Bytes xs → length xs ≤ 255 → Valid (shape_of block_read) (message_of (Send GetUdid) xs)
valid_get xs h l = record {
  address = omega arith;
  direction = refl;
  command = (omega arith, tt);
  sent_length_lem = refl;
  sent_bytes = tt;
  received_length_lem = omega arith;
  received_bytes = h;
  counts = omega arith;
}

pub assign_data_has_17_bytes : (u : Udid) (a : ℕ) → length (assign_data u a) ≡ 17
assign_data_has_17_bytes u a = length-append (udid_bytes u) (2 * (a % 128) ∷ []) ∙ omega (arith, length_udid u)

-- an Assign has 44 symbols
pub assign_has_44_symbols : (u : Udid) (a : Address) → length (trace_of (Send (Assign u a)) []) ≡ 44
unfolding trace_length
assign_has_44_symbols u a = trace_length_lem (shape_of 8) true (message_of (Send (Assign u a)) []) ∙ omega (arith, assign_data_has_17_bytes u a.0)

pub valid_assign : (u : Udid) (a : Address) → Valid (shape_of block_write) (message_of (Send (Assign u a)) [])
valid_assign u a = record {
  address = omega arith;
  direction = refl;
  command = (omega arith, tt);
  sent_length_lem = omega arith;
  sent_bytes = append_bytes (udid_bytes u) (2 * (a.0 % 128) ∷ []) (udid_bytes_lem u) (omega arith, tt);
  received_length_lem = refl;
  received_bytes = tt;
  counts = omega (arith, assign_data_has_17_bytes u a.0);
}

-- ---- their traces, symbol by symbol

-- Prepare To ARP is the marked case M2, whatever is given as a reply, which it has none of
pub prepare_symbols : (reply : List ℕ) → trace_of (Send Prepare) reply ≡ prepare_trace
unfolding pec_from pec_step bit_step
prepare_symbols reply = refl

-- Get UDID with the bytes of a reply
pub reply_symbols : (xs : List ℕ) → trace_of (Send GetUdid) xs ≡ reply_trace xs
reply_symbols xs = rows.block_read_pec 0x61 0x03 xs

-- of 17 bytes: S C2 A 03 A S C3 A 11 A, each byte with A, PEC N P
pub reply_symbols_17 : (xs : List ℕ) → length xs ≡ 17 → trace_of (Send GetUdid) xs
    ≡ 256 ∷ 194 ∷ 258 ∷ 3 ∷ 258 ∷ 256 ∷ 195 ∷ 258 ∷ 17 ∷ 258 ∷ (acked xs ++ pec_of (194 ∷ 3 ∷ 195 ∷ 17 ∷ xs) ∷ 259 ∷ 257 ∷ [])
reply_symbols_17 xs e =
    reply_symbols xs
    ∙ ap (λ (n : ℕ). 256 ∷ 194 ∷ 258 ∷ 3 ∷ 258 ∷ 256 ∷ 195 ∷ 258 ∷ n ∷ 258 ∷ (acked xs ++ pec_of (194 ∷ 3 ∷ 195 ∷ n ∷ xs) ∷ 259 ∷ 257 ∷ [])) e

acked_last : (xs : List ℕ) (b : ℕ) (l : List ℕ) → acked (xs ++ b ∷ []) ++ l ≡ acked xs ++ b ∷ 258 ∷ l
acked_last [] b l = refl
acked_last (x ∷ xs) b l = ap (λ (r : List ℕ). x ∷ 258 ∷ r) (acked_last xs b l)

-- Assign Address: the address byte is twice the address, of which seven bits count
pub assign_symbols : (u : Udid) (a : Address) → trace_of (Send (Assign u a)) [] ≡ assign_trace (udid_bytes u) (2 * (a.0 % 128))
assign_symbols u a =
    let d : List ℕ = udid_bytes u ++ 2 * (a.0 % 128) ∷ [] in
    rows.block_write_pec 0x61 0x04 (assign_data u a.0)
    ∙ ap (λ (n : ℕ). 256 ∷ 194 ∷ 258 ∷ 4 ∷ 258 ∷ n ∷ 258 ∷ (acked d ++ pec_of (194 ∷ 4 ∷ n ∷ d) ∷ 258 ∷ 257 ∷ [])) (assign_data_has_17_bytes u a.0)
    ∙ ap (λ (l : List ℕ). 256 ∷ 194 ∷ 258 ∷ 4 ∷ 258 ∷ 17 ∷ 258 ∷ l) (acked_last (udid_bytes u) (2 * (a.0 % 128)) (pec_of (194 ∷ 4 ∷ 17 ∷ d) ∷ 258 ∷ 257 ∷ []))

-- of a 7-bit address, the byte is twice the address itself
pub assign_symbols_small : (u : Udid) (a : Address) → a.0 < 128 → trace_of (Send (Assign u a)) [] ≡ assign_trace (udid_bytes u) (2 * a.0)
assign_symbols_small u a h = assign_symbols u a ∙ ap (λ (n : ℕ). assign_trace (udid_bytes u) (2 * n)) (mod-eq_of_lt h)

pub command_rows : CommandRows
command_rows = record {
  prepare = prepare_symbols;
  get = reply_symbols_17;
  assign = assign_symbols_small;
}

-- ---- the bytes of a reply

-- 17 bytes are an identifier's and one more
pub seventeen_bytes_are_udid_and_byte : (xs : List ℕ) → Bytes xs → length xs ≡ 17 → Fits (udid_at xs 0) × (get_or xs 16 0 < 256) × (xs ≡ udid_bytes (udid_at xs 0) ++ get_or xs 16 0 ∷ [])
seventeen_bytes_are_udid_and_byte xs h l = (
  fits_at xs 0 h,
  byte_at xs 16 h,
  split_at xs 16 0 (omega arith)
      ∙ ap₂ (λ (p q : List ℕ). p ++ q) (sym (bytes_back xs 0 h (omega arith))) (ap (λ (q : List ℕ). get_or xs 16 0 ∷ q) (none (drop 17 xs) (length-drop 17 xs ∙ omega arith))),
)
  where
    none : (l : List ℕ) → length l ≡ 0 → l ≡ []
    none [] e = refl
    none (x ∷ l) e = absurd (omega arith)
