-- What a trace was taken for, in words. It goes by what the trace told the controller; the decoder's answer says why.
use Rattle.std.specs.Prelude.{ℕ, List, [], ◌++◌, eqb, Ok, Err}
use Rattle.lists.specs.Choice.{pick}
use Rattle.text.specs.Chars.{chars}
use Rattle.writing.specs.Written.{decimal_of}
use Rattle.scan.specs.Decoded.{Decoded}
use Rattle.codec_answers.specs.Refusals.{refusal_text}
use Rattle.commands.specs.Codes.{send_byte, block_read, block_write}
use Rattle.commands.specs.declared.command.Command.{Command}
use Rattle.commands.specs.declared.command.Command.TheVariants.{Prepare, GetUdid, Assign}
use Rattle.commands.specs.declared.command.Handed.TheVariants.{Send}
use Rattle.hearing.specs.Heard.{answer}
use Rattle.hearing.specs.Told.{tells}
use Rattle.hearing.specs.declared.told.Told.{Told}
use Rattle.hearing.specs.declared.told.Told.TheVariants.{Again, Over, GivenUp, Reply, Took, Unasked}

-- why a trace is not what was due: the decoder's refusal, or that it is another transaction
abbrev pub because : Decoded → List ℕ
because (Ok t) = chars "another transaction"
because (Err e) = refusal_text e.why e.place

-- nobody is left: the byte that was not acknowledged, or the count of a reply that is none
abbrev pub left_text : Decoded → List ℕ
left_text (Ok t) = chars "nobody is left: a count of " ++ decimal_of t.received
left_text (Err e) = chars "nobody is left: " ++ refusal_text e.why e.place

-- Get UDID is sent again, which the step's number 0 says
abbrev pub asked_text : ℕ → List ℕ
asked_text n = pick (eqb n 0) (chars "; asked again") []

-- a command that was not answered as it has to be
abbrev pub unheard_text : List ℕ → ℕ → Decoded → List ℕ
unheard_text label n d = label ++ because d ++ asked_text n

-- Prepare To ARP was outstanding. No trace tells the last three
abbrev pub prepare_text : Told → Decoded → List ℕ
prepare_text Again d = chars "acknowledged"
prepare_text Over d = chars "nobody is there: " ++ because d
prepare_text GivenUp d = chars "no proper Prepare To ARP: " ++ because d
prepare_text (Reply u b) d = []
prepare_text (Took u a) d = []
prepare_text Unasked d = []

-- Get UDID was outstanding
abbrev pub get_text : ℕ → Told → Decoded → List ℕ
get_text n Again d = unheard_text (chars "no proper reply: ") n d
get_text n Over d = left_text d
get_text n GivenUp d = []
get_text n (Reply u b) d = chars "a reply"
get_text n (Took u a) d = []
get_text n Unasked d = []

-- Assign Address was outstanding
abbrev pub assign_text : ℕ → Told → Decoded → List ℕ
assign_text n Again d = unheard_text (chars "not taken: ") n d
assign_text n Over d = []
assign_text n GivenUp d = []
assign_text n (Reply u b) d = []
assign_text n (Took u a) d = chars "taken"
assign_text n Unasked d = []

-- by the command
abbrev pub taken_text : ℕ → Command → Told → Decoded → List ℕ
taken_text n Prepare told d = prepare_text told d
taken_text n GetUdid told d = get_text n told d
taken_text n (Assign u a) told d = assign_text n told d

-- the protocol that a trace is decoded as
abbrev pub decoded_as : Command → ℕ
decoded_as Prepare = send_byte
decoded_as GetUdid = block_read
decoded_as (Assign u a) = block_write

-- what a trace was taken for, by the number of the step's answer and the command that was outstanding
unfoldable pub taken_for : ℕ → Command → List ℕ → List ℕ
taken_for n k tr = taken_text n k (tells (Send k) tr) (answer (decoded_as k) tr)
