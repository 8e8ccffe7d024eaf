-- The lines of a model run, in letters: alone it begins as never picked, with a word after that last pick.
use Rattle.std.specs.Prelude.{◌≡◌, refl, Ok}
use Rattle.text.specs.Chars.{chars}
use Rattle.text.specs.Words.{before, start_from, word_from, part_of}
use Rattle.digits.specs.Numbers.{digit_of, are_digits, value_from, digits_of, is_hex, number_of}
use Rattle.words.specs.Said.{number_at, rest_at}
use Rattle.words.specs.Verbs.{verb_of, codec_verb, shelf_verb, pass_verb, module_verb, choice_verb}
use Rattle.requests.specs.Requests.{ended, last_at, run_request, request_of}
use Rattle.requests.specs.declared.request.Request.TheVariants.{Run}

pub run_alone : request_of (chars "run") ≡ Ok (Run 127)
unfolding request_of verb_of codec_verb shelf_verb pass_verb module_verb choice_verb run_request last_at ended rest_at number_at part_of word_from start_from before
run_alone = refl

pub run_decimal : request_of (chars "run 13") ≡ Ok (Run 13)
unfolding request_of verb_of codec_verb shelf_verb pass_verb module_verb choice_verb run_request last_at ended rest_at number_at part_of word_from start_from before number_of is_hex digits_of value_from are_digits digit_of
run_decimal = refl

pub run_hexadecimal : request_of (chars "run 0x0d") ≡ Ok (Run 13)
unfolding request_of verb_of codec_verb shelf_verb pass_verb module_verb choice_verb run_request last_at ended rest_at number_at part_of word_from start_from before number_of is_hex digits_of value_from are_digits digit_of
run_hexadecimal = refl

-- above 127 too: it is the model run that refuses it
pub run_above : request_of (chars "run 128") ≡ Ok (Run 128)
unfolding request_of verb_of codec_verb shelf_verb pass_verb module_verb choice_verb run_request last_at ended rest_at number_at part_of word_from start_from before number_of is_hex digits_of value_from are_digits digit_of
run_above = refl
