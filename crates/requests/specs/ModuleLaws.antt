-- A line that asks for a module has a record of which there is one: no other is let in. And lines of module and m, in letters.
use Rattle.std.specs.Prelude.{ℕ, ◌%◌, ◌^◌, ◌≡◌, refl, Bool, true, false, List, Option, Some, None, Result, Ok, Err, ltb, leb, length}
use Rattle.std.proofs.Common.{sym, ap, ◌∙◌}
use Rattle.lists.specs.Choice.{pick, and, not}
use Rattle.udid.specs.declared.Udid.{Udid}
use Rattle.text.specs.Chars.{chars}
use Rattle.text.specs.Words.{before, start_from, word_from, part_of}
use Rattle.text.specs.declared.word.LineWord.{LineWord}
use Rattle.digits.specs.Numbers.{digit_of, are_digits, value_from, digits_of, is_hex, number_of, halves_of, quarter_of}
use Rattle.words.specs.Said.{word_in, number_at, byte_at, udid_at, fresh_at, mark_at, rest_at}
use Rattle.words.specs.Verbs.{verb_of, codec_verb, shelf_verb, pass_verb, module_verb, choice_verb}
use Rattle.words.specs.Events.{event_of}
use Rattle.words.specs.declared.verb.Verb.{Verb}
use Rattle.words.specs.declared.verb.Verb.TheVariants as verb
use Rattle.words.specs.declared.event.Event.{Event as EventWord}
use Rattle.words.specs.declared.word.Word.{Word}
use Rattle.words.specs.declared.word.MarkWord.{MarkWord}
use Rattle.requests.specs.Clear.{unclear, due, after}
use Rattle.requests.specs.Lists.{numbers_end, bytes_end, symbols_end}
use Rattle.requests.specs.Requests.{Asked, to_end, bytes_to, symbols_to, ended_by, ended, lone_byte, pec_request, head_at, fields_at, sent_is, sent_at, received_is, received_at, encode_request, decode_request, last_at, run_request, occupied_request, step_request, choose_request, lookup_request, gone_request, target_request, is_random, fresh_given, fresh_is, fresh_on, module_flag, is_module_byte, module_byte, module_request, event_in, event_is, event_request, request_in, request_is, request_of}
use Rattle.requests.specs.declared.expected.Expected.{Expected}
use Rattle.requests.specs.declared.expected.Expected.TheVariants as expected
use Rattle.requests.specs.declared.expected.Unclear.{Unclear}
use Rattle.requests.specs.declared.request.Head.{Head}
use Rattle.requests.specs.declared.request.Fields.{Fields}
use Rattle.requests.specs.declared.request.Record.{Record}
use Rattle.requests.specs.declared.request.ModuleEvent.{ModuleEvent}
use Rattle.requests.specs.declared.request.ModuleEvent.TheVariants as happens
use Rattle.requests.specs.declared.request.Request.{Request}
use Rattle.requests.specs.declared.request.Request.TheVariants.{Nothing, Pec, Encode, Decode, Occupied, Target, Clear, Run, Start, Step, Lookup, Gone, Grid, Module, Event, Choose, Issue, Decline}

-- a module's record: a byte that a module of that kind can have, and a flag of 0 or 1
abbrev pub is_module : Record → Bool
is_module t = and (is_module_byte t.udid t.byte) (not (ltb 1 t.flag))

abbrev fits_one : Request → Bool
fits_one (Module t f) = is_module t
fits_one Nothing = true
fits_one (Pec p) = true
fits_one (Encode h f s r) = true
fits_one (Decode h p) = true
fits_one (Occupied p) = true
fits_one (Target t p) = true
fits_one Clear = true
fits_one (Run b) = true
fits_one Start = true
fits_one (Step p) = true
fits_one (Lookup b) = true
fits_one (Gone b) = true
fits_one Grid = true
fits_one (Event e p) = true
fits_one (Choose p) = true
fits_one Issue = true
fits_one Decline = true

abbrev fits : Asked → Bool
fits (Ok q) = fits_one q
fits (Err u) = true

-- ---- what most requests end with

-- what follows what is clear: it fits where it does after everything that was read
fits_after : {A : Type 0} (r : Result A Unclear) (k : A → Asked) → ((a : A) → r ≡ Ok a → fits (k a) ≡ true) → fits (after r k) ≡ true
fits_after (Ok a) k h = h a refl
fits_after (Err u) k h = refl

fits_pick : (b : Bool) (x y : Asked) → fits x ≡ true → fits y ≡ true → fits (pick b x y) ≡ true
fits_pick true x y e f = e
fits_pick false x y e f = f

fits_to_end : (q : Request) (line : List ℕ) (e : Expected) (end : ℕ) → fits_one q ≡ true → fits (to_end q line e end) ≡ true
fits_to_end q line e end h = fits_pick (ltb end (length line)) (unclear e end) (Ok q) refl h

fits_bytes : (line : List ℕ) (at : ℕ) (q : Request) → fits_one q ≡ true → fits (bytes_to line at q) ≡ true
fits_bytes line at q e = fits_to_end q line expected.Byte (bytes_end (length line) line at) e

fits_symbols : (line : List ℕ) (at : ℕ) (q : Request) → fits_one q ≡ true → fits (symbols_to line at q) ≡ true
fits_symbols line at q e = fits_to_end q line expected.Symbol (symbols_end (length line) line at) e

fits_rest : (q : Request) (r : Option ℕ) → fits_one q ≡ true → fits (ended_by q r) ≡ true
fits_rest q None e = e
fits_rest q (Some p) e = refl

fits_ended : (q : Request) (line : List ℕ) (at : ℕ) → fits_one q ≡ true → fits (ended q line at) ≡ true
unfolding ended
fits_ended q line at e = fits_rest q (rest_at line at) e

fits_byte : (q : ℕ → Request) (line : List ℕ) (w : Result (Word ℕ) ℕ) → ((b : ℕ) → fits_one (q b) ≡ true) → fits (after (lone_byte line w) (λ (b : ℕ). Ok (q b))) ≡ true
fits_byte q line w e = fits_after (lone_byte line w) (λ (b : ℕ). Ok (q b)) (λ b h. e b)

-- ---- the requests of the codec

fits_received : (h : Head) (f : Fields) (sent : ℕ) (line : List ℕ) (m : MarkWord) → fits (after (received_is line m) (λ (r : ℕ). Ok (Encode h f sent r))) ≡ true
fits_received h f sent line m = fits_after (received_is line m) (λ (r : ℕ). Ok (Encode h f sent r)) (λ r e. refl)

fits_sent : (h : Head) (f : Fields) (line : List ℕ) (m : MarkWord)
    → fits (after (sent_is line m) (λ (s : ℕ × ℕ). after (received_at line s.1) (λ (r : ℕ). Ok (Encode h f s.0 r)))) ≡ true
unfolding received_at
fits_sent h f line m = fits_after (sent_is line m) _ (λ s e. fits_received h f s.0 line (mark_at line s.1 (chars "r")))

fits_fields : (h : Head) (line : List ℕ) (w : Result (Word Fields) Unclear)
    → fits (after w (λ (f : Word Fields). after (sent_at line f.to) (λ (s : ℕ × ℕ). after (received_at line s.1) (λ (r : ℕ). Ok (Encode h f.value s.0 r))))) ≡ true
unfolding sent_at
fits_fields h line w = fits_after w _ (λ f e. fits_sent h f.value line (mark_at line f.to (chars "w")))

fits_encode : (line : List ℕ) (w : Result (Word Head) Unclear)
    → fits (after w (λ (h : Word Head).
    after (fields_at line h.to) (λ (f : Word Fields).
    after (sent_at line f.to) (λ (s : ℕ × ℕ).
    after (received_at line s.1) (λ (r : ℕ).
    Ok (Encode h.value f.value s.0 r)))))) ≡ true
fits_encode line w = fits_after w _ (λ h e. fits_fields h.value line (fields_at line h.to))

fits_decode : (line : List ℕ) (w : Result (Word Head) Unclear) → fits (after w (λ (h : Word Head). symbols_to line h.to (Decode h.value h.to))) ≡ true
fits_decode line w = fits_after w _ (λ h e. fits_symbols line h.to (Decode h.value h.to) refl)

-- ---- target, and m

fits_target_byte : (u : Udid) (place : ℕ) (line : List ℕ) (w : Result (Word ℕ) ℕ)
    → fits (after (due expected.Byte w) (λ (b : Word ℕ).
    after (due expected.Byte (byte_at line b.to)) (λ (f : Word ℕ).
    ended (Target (record { udid = u; byte = b.value; flag = f.value }) place) line f.to))) ≡ true
fits_target_byte u place line w =
    fits_after (due expected.Byte w) _ (λ b h.
    fits_after (due expected.Byte (byte_at line b.to)) _ (λ f k.
    fits_ended (Target (record { udid = u; byte = b.value; flag = f.value }) place) line f.to refl))

fits_target : (line : List ℕ) (w : Result (Word Udid) ℕ)
    → fits (after (due expected.Udid w) (λ (u : Word Udid).
    after (due expected.Byte (byte_at line u.to)) (λ (b : Word ℕ).
    after (due expected.Byte (byte_at line b.to)) (λ (f : Word ℕ).
    ended (Target (record { udid = u.value; byte = b.value; flag = f.value }) u.from) line f.to)))) ≡ true
fits_target line w = fits_after (due expected.Udid w) _ (λ u h. fits_target_byte u.value u.from line (byte_at line u.to))

fits_event : (e : Option EventWord) (line : List ℕ) (place : ℕ) (w : LineWord) → fits (event_is e line place w) ≡ true
fits_event (Some e) line place w = fits_after (event_in e line w.to) (λ (what : ModuleEvent). Ok (Event what place)) (λ what h. refl)
fits_event None line place w = refl

-- ---- module

-- the last four bytes, after a record that is a module's

fits_fresh : (t : Record) (line : List ℕ) (w : Result (Word ℕ) ℕ) → is_module t ≡ true
    → fits (after (after (due expected.Fresh w) (λ (f : Word ℕ). ended f.value line f.to)) (λ (last : ℕ). Ok (Module t last))) ≡ true
fits_fresh t line w e = fits_after (after (due expected.Fresh w) (λ (f : Word ℕ). ended f.value line f.to)) (λ (last : ℕ). Ok (Module t last)) (λ last h. e)

fits_fourth : (t : Record) (line : List ℕ) (at : ℕ) (r : Option ℕ) → is_module t ≡ true → fits (after (fresh_is t.udid line at r) (λ (last : ℕ). Ok (Module t last))) ≡ true
unfolding fresh_given
fits_fourth t line at None e = e
fits_fourth t line at (Some p) e = fits_fresh t line (fresh_at line at) e

fits_on : (t : Record) (line : List ℕ) (at : ℕ) → is_module t ≡ true → fits (after (fresh_on t.udid line at) (λ (last : ℕ). Ok (Module t last))) ≡ true
unfolding fresh_on
fits_on t line at e = go (is_random t.udid)
  where
    go : (b : Bool)
        → fits (after (pick b (fresh_is t.udid line at (rest_at line at)) (ended (t.udid.low % 2 ^ 32) line at)) (λ (last : ℕ). Ok (Module t last))) ≡ true
    go true = fits_fourth t line at (rest_at line at) e
    go false = fits_after (ended (t.udid.low % 2 ^ 32) line at) (λ (last : ℕ). Ok (Module t last)) (λ last h. e)

-- FLAG, and after it the last bytes

fits_flag : (u : Udid) (b : ℕ) (w : Word ℕ) (line : List ℕ) → is_module_byte u b ≡ true
    → fits (after (pick (ltb 1 w.value) (unclear expected.Flag w.from) (Ok w)) (λ (f : Word ℕ).
    after (fresh_on u line f.to) (λ (last : ℕ).
    Ok (Module (record { udid = u; byte = b; flag = f.value }) last)))) ≡ true
fits_flag u b w line e = go (ltb 1 w.value) refl
  where
    go : (t : Bool) → ltb 1 w.value ≡ t
        → fits (after (pick t (unclear expected.Flag w.from) (Ok w)) (λ (f : Word ℕ).
        after (fresh_on u line f.to) (λ (last : ℕ).
        Ok (Module (record { udid = u; byte = b; flag = f.value }) last)))) ≡ true
    go true g = refl
    go false g = fits_on (record { udid = u; byte = b; flag = w.value }) line w.to (rw (e, g))

fits_flag_word : (u : Udid) (b : ℕ) (line : List ℕ) (w : Result (Word ℕ) ℕ) → is_module_byte u b ≡ true
    → fits (after (after (due expected.Byte w) (λ (f : Word ℕ). pick (ltb 1 f.value) (unclear expected.Flag f.from) (Ok f))) (λ (f : Word ℕ).
    after (fresh_on u line f.to) (λ (last : ℕ).
    Ok (Module (record { udid = u; byte = b; flag = f.value }) last)))) ≡ true
fits_flag_word u b line (Ok f) e = fits_flag u b f line e
fits_flag_word u b line (Err p) e = refl

-- BYTE, and after it FLAG and the last bytes

fits_byte_in : (u : Udid) (w : Word ℕ) (line : List ℕ)
    → fits (after (pick (is_module_byte u w.value) (Ok w) (unclear expected.OddByte w.from)) (λ (b : Word ℕ).
    after (module_flag line b.to) (λ (f : Word ℕ).
    after (fresh_on u line f.to) (λ (last : ℕ).
    Ok (Module (record { udid = u; byte = b.value; flag = f.value }) last))))) ≡ true
unfolding module_flag
fits_byte_in u w line = go (is_module_byte u w.value) refl
  where
    go : (t : Bool) → is_module_byte u w.value ≡ t
        → fits (after (pick t (Ok w) (unclear expected.OddByte w.from)) (λ (b : Word ℕ).
        after (module_flag line b.to) (λ (f : Word ℕ).
        after (fresh_on u line f.to) (λ (last : ℕ).
        Ok (Module (record { udid = u; byte = b.value; flag = f.value }) last))))) ≡ true
    go true g = fits_flag_word u w.value line (byte_at line w.to) g
    go false g = refl

fits_byte_word : (u : Udid) (line : List ℕ) (w : Result (Word ℕ) ℕ)
    → fits (after (after (due expected.Byte w) (λ (b : Word ℕ). pick (is_module_byte u b.value) (Ok b) (unclear expected.OddByte b.from))) (λ (b : Word ℕ).
    after (module_flag line b.to) (λ (f : Word ℕ).
    after (fresh_on u line f.to) (λ (last : ℕ).
    Ok (Module (record { udid = u; byte = b.value; flag = f.value }) last))))) ≡ true
fits_byte_word u line (Ok b) = fits_byte_in u b line
fits_byte_word u line (Err p) = refl

fits_module : (line : List ℕ) (w : Result (Word Udid) ℕ)
    → fits (after (due expected.Udid w) (λ (u : Word Udid).
    after (module_byte u.value line u.to) (λ (b : Word ℕ).
    after (module_flag line b.to) (λ (f : Word ℕ).
    after (fresh_on u.value line f.to) (λ (last : ℕ).
    Ok (Module (record { udid = u.value; byte = b.value; flag = f.value }) last)))))) ≡ true
unfolding module_byte
fits_module line (Ok u) = fits_byte_word u.value line (byte_at line u.to)
fits_module line (Err p) = refl

-- ---- a line

fits_in : (v : Verb) (line : List ℕ) (place at : ℕ) → fits (request_in v line place at) ≡ true
unfolding pec_request encode_request decode_request occupied_request target_request run_request step_request choose_request lookup_request gone_request module_request event_request
fits_in verb.Pec line place at = fits_bytes line at (Pec at) refl
fits_in verb.Encode line place at = fits_encode line (head_at line at)
fits_in verb.Decode line place at = fits_decode line (head_at line at)
fits_in verb.Occupied line place at = fits_bytes line at (Occupied at) refl
fits_in verb.Target line place at = fits_target line (udid_at line at)
fits_in verb.Clear line place at = fits_ended Clear line at refl
fits_in verb.Run line place at = fits_byte Run line (last_at line at) (λ b. refl)
fits_in verb.Start line place at = fits_ended Start line at refl
fits_in verb.Step line place at = fits_symbols line at (Step at) refl
fits_in verb.Lookup line place at = fits_byte Lookup line (byte_at line at) (λ b. refl)
fits_in verb.Gone line place at = fits_byte Gone line (byte_at line at) (λ b. refl)
fits_in verb.Grid line place at = fits_ended Grid line at refl
fits_in verb.Module line place at = fits_module line (udid_at line at)
fits_in verb.M line place at = fits_event (event_of (word_in line (word_from line at))) line place (word_from line at)
fits_in verb.Choose line place at = fits_symbols line at (Choose at) refl
fits_in verb.Issue line place at = fits_ended Issue line at refl
fits_in verb.Decline line place at = fits_ended Decline line at refl

fits_verb : (v : Option Verb) (line : List ℕ) (place at : ℕ) → fits (request_is v line place at) ≡ true
fits_verb (Some v) line place at = fits_in v line place at
fits_verb None line place at = refl

fits_line : (line : List ℕ) → fits (request_of line) ≡ true
unfolding request_of
fits_line line =
    fits_pick (leb (word_from line 0).to (word_from line 0).from) (Ok Nothing) (request_is (verb_of (word_in line (word_from line 0))) line (word_from line 0).from (word_from line 0).to)
    refl
    (fits_verb (verb_of (word_in line (word_from line 0))) line (word_from line 0).from (word_from line 0).to)

-- whatever a line is: where it asks for a module, there is one
pub module_asked : (line : List ℕ) (t : Record) (f : ℕ) → request_of line ≡ Ok (Module t f) → is_module t ≡ true
module_asked line t f e = sym (ap fits e) ∙ fits_line line

-- ---- in letters

pub m_start : request_of (chars " m start") ≡ Ok (Event happens.Start 1)
unfolding request_of verb_of codec_verb shelf_verb pass_verb module_verb choice_verb event_request event_of ended rest_at part_of word_from start_from before
m_start = refl

pub m_bytes : request_of (chars "m byte 0xc2 3") ≡ Ok (Event (happens.Bytes 6) 0)
unfolding request_of verb_of codec_verb shelf_verb pass_verb module_verb choice_verb event_request event_of numbers_end number_at part_of word_from start_from before number_of is_hex digits_of value_from are_digits digit_of
m_bytes = refl

pub m_alone : request_of (chars "m") ≡ unclear expected.Event 1
unfolding request_of verb_of codec_verb shelf_verb pass_verb module_verb choice_verb event_request event_of part_of word_from start_from before
m_alone = refl

-- a random module with a fourth word
pub module_fresh_lem : request_of (chars "module c0000000000000000000000000000001 0x43 1 89abCDEF")
    ≡ Ok (Module (record { udid = record { high = 0xC000000000000000; low = 1 }; byte = 0x43; flag = 1 }) 0x89ABCDEF)
unfolding request_of verb_of codec_verb shelf_verb pass_verb module_verb choice_verb module_request module_byte is_module_byte module_flag fresh_on fresh_given ended rest_at udid_at fresh_at number_at part_of word_from start_from before number_of is_hex digits_of halves_of quarter_of value_from are_digits digit_of
module_fresh_lem = refl

-- without it the last bytes stay
pub module_stays : request_of (chars "module c0000000000000000000000087654321 0xff 0")
    ≡ Ok (Module (record { udid = record { high = 0xC000000000000000; low = 0x87654321 }; byte = 0xFF; flag = 0 }) 0x87654321)
unfolding request_of verb_of codec_verb shelf_verb pass_verb module_verb choice_verb module_request module_byte is_module_byte module_flag fresh_on fresh_given ended rest_at udid_at fresh_at number_at part_of word_from start_from before number_of is_hex digits_of halves_of quarter_of value_from are_digits digit_of
module_stays = refl

-- a fixed module has an address
pub module_fixed : request_of (chars "module 00000000000000000000000000000000 0xff 0") ≡ unclear expected.OddByte 40
unfolding request_of verb_of codec_verb shelf_verb pass_verb module_verb choice_verb module_request module_byte is_module_byte module_flag fresh_on fresh_given ended rest_at udid_at fresh_at number_at part_of word_from start_from before number_of is_hex digits_of halves_of quarter_of value_from are_digits digit_of
module_fixed = refl
