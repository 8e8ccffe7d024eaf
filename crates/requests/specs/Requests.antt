-- What a line means: a request with its values, or what was expected at which place.
use Rattle.std.specs.Prelude.{ℕ, ◌%◌, ◌^◌, Bool, List, eqb, ltb, leb, length, Option, Some, None, Result, Ok}
use Rattle.lists.specs.Choice.{pick, and, not}
use Rattle.udid.specs.declared.Udid.{Udid}
use Rattle.udid.specs.Udids.{top_bits, is_fixed}
use Rattle.text.specs.Chars.{chars}
use Rattle.text.specs.Words.{word_from}
use Rattle.text.specs.declared.word.LineWord.{LineWord}
use Rattle.words.specs.Verbs.{verb_of}
use Rattle.words.specs.Events.{event_of}
use Rattle.words.specs.Said.{word_in, byte_at, udid_at, fresh_at, protocol_at, pec_at, mark_at, rest_at}
use Rattle.requests.specs.Clear.{unclear, due, after}
use Rattle.requests.specs.Lists.{bytes_end, symbols_end}
use Rattle.requests.specs.declared.expected.Expected.{Expected}
use Rattle.requests.specs.declared.expected.Expected.TheVariants as expected
use Rattle.requests.specs.declared.expected.Unclear.{Unclear}
use Rattle.words.specs.declared.verb.Verb.{Verb}
use Rattle.words.specs.declared.verb.Verb.TheVariants as verb
use Rattle.words.specs.declared.event.Event.{Event as EventWord}
use Rattle.words.specs.declared.event.Event.TheVariants as event
use Rattle.words.specs.declared.word.Word.{Word}
use Rattle.words.specs.declared.word.MarkWord.{MarkWord}
use Rattle.words.specs.declared.word.MarkWord.TheVariants.{Mark, Over, Another}
use Rattle.requests.specs.declared.request.Head.{Head}
use Rattle.requests.specs.declared.request.Fields.{Fields}
use Rattle.requests.specs.declared.request.ModuleEvent.{ModuleEvent}
use Rattle.requests.specs.declared.request.ModuleEvent.TheVariants as happens
use Rattle.requests.specs.declared.request.Request.{Request}
use Rattle.requests.specs.declared.request.Request.TheVariants.{Nothing, Pec, Encode, Decode, Occupied, Target, Clear, Run, Start, Step, Lookup, Gone, Grid, Module, Event, Choose, Issue, Decline}

-- a request, or what was expected at which place
abbrev pub Asked : Type 0
Asked = Result Request Unclear

-- what was read before a list that ends at a place, where that is the end of the line
abbrev pub to_end : {A : Type 0} → A → List ℕ → Expected → ℕ → Result A Unclear
to_end q line e end = pick (ltb end (length line)) (unclear e end) (Ok q)

-- before a list of bytes, or of symbols
abbrev pub bytes_to : {A : Type 0} → List ℕ → ℕ → A → Result A Unclear
bytes_to line at q = to_end q line expected.Byte (bytes_end (length line) line at)

abbrev pub symbols_to : {A : Type 0} → List ℕ → ℕ → A → Result A Unclear
symbols_to line at q = to_end q line expected.Symbol (symbols_end (length line) line at)

-- what was read, after which no word is left
abbrev pub ended_by : {A : Type 0} → A → Option ℕ → Result A Unclear
ended_by q None = Ok q
ended_by q (Some at) = unclear expected.End at

unfoldable pub ended : {A : Type 0} → A → List ℕ → ℕ → Result A Unclear
ended q line at = ended_by q (rest_at line at)

-- a byte, after whose word no word is left
abbrev pub lone_byte : List ℕ → Result (Word ℕ) ℕ → Result ℕ Unclear
lone_byte line w = after (due expected.Byte w) (λ (b : Word ℕ). ended b.value line b.to)

-- ---- pec B...

unfoldable pub pec_request : List ℕ → ℕ → Asked
pec_request line at = bytes_to line at (Pec at)

-- ---- P p|-

unfoldable pub head_at : List ℕ → ℕ → Result (Word Head) Unclear
head_at line at =
    after (due expected.Protocol (protocol_at line at)) (λ (p : Word ℕ).
    after (due expected.Pec (pec_at line p.to)) (λ (c : Word Bool).
    Ok (record { value = record { protocol = p.value; pec = c.value }; from = p.from; to = c.to })))

-- ---- ADDRESS DIRECTION COMMAND

unfoldable pub fields_at : List ℕ → ℕ → Result (Word Fields) Unclear
fields_at line at =
    after (due expected.Byte (byte_at line at)) (λ (a : Word ℕ).
    after (due expected.Byte (byte_at line a.to)) (λ (d : Word ℕ).
    after (due expected.Byte (byte_at line d.to)) (λ (c : Word ℕ).
    Ok (record { value = record { address = a.value; direction = d.value; command = c.value }; from = a.from; to = c.to }))))

-- ---- encode P p|- ADDRESS DIRECTION COMMAND w B... r B...; a list that is missing at the end of the line is empty

-- where the bytes that are sent begin, and the place after them
abbrev pub sent_is : List ℕ → MarkWord → Result (ℕ × ℕ) Unclear
sent_is line (Mark next) = Ok (next, bytes_end (length line) line next)
sent_is line (Over place) = Ok (place, place)
sent_is line (Another place) = unclear expected.Sent place

unfoldable pub sent_at : List ℕ → ℕ → Result (ℕ × ℕ) Unclear
sent_at line at = sent_is line (mark_at line at (chars "w"))

-- where those that are received begin, which reach to the end of the line
abbrev pub received_is : List ℕ → MarkWord → Result ℕ Unclear
received_is line (Mark next) = bytes_to line next next
received_is line (Over place) = Ok place
received_is line (Another place) = unclear expected.Received place

unfoldable pub received_at : List ℕ → ℕ → Result ℕ Unclear
received_at line at = received_is line (mark_at line at (chars "r"))

unfoldable pub encode_request : List ℕ → ℕ → Asked
encode_request line at =
    after (head_at line at) (λ (h : Word Head).
    after (fields_at line h.to) (λ (f : Word Fields).
    after (sent_at line f.to) (λ (s : ℕ × ℕ).
    after (received_at line s.1) (λ (r : ℕ).
    Ok (Encode h.value f.value s.0 r)))))

-- ---- decode P p|- SYMBOL...

unfoldable pub decode_request : List ℕ → ℕ → Asked
decode_request line at = after (head_at line at) (λ (h : Word Head). symbols_to line h.to (Decode h.value h.to))

-- ---- run, or run LAST

-- the last pick that a run begins with: a byte, and 127, never picked, where no word is left
abbrev pub last_is : List ℕ → ℕ → Option ℕ → Result (Word ℕ) ℕ
last_is line at None = Ok (record { value = 127; from = at; to = at })
last_is line at (Some place) = byte_at line at

unfoldable pub last_at : List ℕ → ℕ → Result (Word ℕ) ℕ
last_at line at = last_is line at (rest_at line at)

unfoldable pub run_request : List ℕ → ℕ → Asked
run_request line at = after (lone_byte line (last_at line at)) (λ (b : ℕ). Ok (Run b))

-- ---- occupied A..., step SYMBOL..., choose SYMBOL..., lookup A, gone A

unfoldable pub occupied_request : List ℕ → ℕ → Asked
occupied_request line at = bytes_to line at (Occupied at)

unfoldable pub step_request : List ℕ → ℕ → Asked
step_request line at = symbols_to line at (Step at)

unfoldable pub choose_request : List ℕ → ℕ → Asked
choose_request line at = symbols_to line at (Choose at)

unfoldable pub lookup_request : List ℕ → ℕ → Asked
lookup_request line at = after (lone_byte line (byte_at line at)) (λ (b : ℕ). Ok (Lookup b))

unfoldable pub gone_request : List ℕ → ℕ → Asked
gone_request line at = after (lone_byte line (byte_at line at)) (λ (b : ℕ). Ok (Gone b))

-- ---- target UDID BYTE FLAG

unfoldable pub target_request : List ℕ → ℕ → Asked
target_request line at =
    after (due expected.Udid (udid_at line at)) (λ (u : Word Udid).
    after (due expected.Byte (byte_at line u.to)) (λ (b : Word ℕ).
    after (due expected.Byte (byte_at line b.to)) (λ (f : Word ℕ).
    ended (Target (record { udid = u.value; byte = b.value; flag = f.value }) u.from) line f.to)))

-- ---- module UDID BYTE FLAG, and for a random module the last four bytes that its identifier takes at a reset

-- the top two bits are 11
abbrev pub is_random : Udid → Bool
is_random u = eqb (top_bits u) 3

-- 8 digits, and no word after them
unfoldable pub fresh_given : List ℕ → ℕ → Result ℕ Unclear
fresh_given line at = after (due expected.Fresh (fresh_at line at)) (λ (f : Word ℕ). ended f.value line f.to)

-- without a fourth word the last bytes stay; only a random module may have one
abbrev pub fresh_is : Udid → List ℕ → ℕ → Option ℕ → Result ℕ Unclear
fresh_is u line at None = Ok (u.low % 2 ^ 32)
fresh_is u line at (Some place) = fresh_given line at

unfoldable pub fresh_on : Udid → List ℕ → ℕ → Result ℕ Unclear
fresh_on u line at = pick (is_random u) (fresh_is u line at (rest_at line at)) (ended (u.low % 2 ^ 32) line at)

-- FLAG is 0 or 1
unfoldable pub module_flag : List ℕ → ℕ → Result (Word ℕ) Unclear
module_flag line at = after (due expected.Byte (byte_at line at)) (λ (f : Word ℕ). pick (ltb 1 f.value) (unclear expected.Flag f.from) (Ok f))

-- BYTE is odd, and 255, with which no address is valid, only for a movable module
unfoldable pub is_module_byte : Udid → ℕ → Bool
is_module_byte u b = and (not (eqb (b % 2) 0)) (not (and (is_fixed u) (eqb b 0xFF)))

unfoldable pub module_byte : Udid → List ℕ → ℕ → Result (Word ℕ) Unclear
module_byte u line at =
    after (due expected.Byte (byte_at line at)) (λ (b : Word ℕ). pick (is_module_byte u b.value) (Ok b) (unclear expected.OddByte b.from))

unfoldable pub module_request : List ℕ → ℕ → Asked
module_request line at =
    after (due expected.Udid (udid_at line at)) (λ (u : Word Udid).
    after (module_byte u.value line u.to) (λ (b : Word ℕ).
    after (module_flag line b.to) (λ (f : Word ℕ).
    after (fresh_on u.value line f.to) (λ (last : ℕ).
    Ok (Module (record { udid = u.value; byte = b.value; flag = f.value }) last)))))

-- ---- m start, byte B..., supply, lost, stop or state; the place is that of m

abbrev pub event_in : EventWord → List ℕ → ℕ → Result ModuleEvent Unclear
event_in event.Start line at = ended happens.Start line at
event_in event.Byte line at = bytes_to line at (happens.Bytes at)
event_in event.Supply line at = ended happens.Supply line at
event_in event.Lost line at = ended happens.Lost line at
event_in event.Stop line at = ended happens.Stop line at
event_in event.State line at = ended happens.State line at

abbrev pub event_is : Option EventWord → List ℕ → ℕ → LineWord → Asked
event_is (Some e) line place w = after (event_in e line w.to) (λ (what : ModuleEvent). Ok (Event what place))
event_is None line place w = unclear expected.Event w.from

unfoldable pub event_request : List ℕ → ℕ → ℕ → Asked
event_request line place at = event_is (event_of (word_in line (word_from line at))) line place (word_from line at)

-- ---- a line: its verb, and the words after it

abbrev pub request_in : Verb → List ℕ → ℕ → ℕ → Asked
request_in verb.Pec line place at = pec_request line at
request_in verb.Encode line place at = encode_request line at
request_in verb.Decode line place at = decode_request line at
request_in verb.Occupied line place at = occupied_request line at
request_in verb.Target line place at = target_request line at
request_in verb.Clear line place at = ended Clear line at
request_in verb.Run line place at = run_request line at
request_in verb.Start line place at = ended Start line at
request_in verb.Step line place at = step_request line at
request_in verb.Lookup line place at = lookup_request line at
request_in verb.Gone line place at = gone_request line at
request_in verb.Grid line place at = ended Grid line at
request_in verb.Module line place at = module_request line at
request_in verb.M line place at = event_request line place at
request_in verb.Choose line place at = choose_request line at
request_in verb.Issue line place at = ended Issue line at
request_in verb.Decline line place at = ended Decline line at

abbrev pub request_is : Option Verb → List ℕ → ℕ → ℕ → Asked
request_is (Some v) line place at = request_in v line place at
request_is None line place at = unclear expected.Verb place

-- a line of no word asks for nothing
unfoldable pub request_of : List ℕ → Asked
request_of line =
    pick (leb (word_from line 0).to (word_from line 0).from) (Ok Nothing)
    (request_is (verb_of (word_in line (word_from line 0))) line (word_from line 0).from (word_from line 0).to)
