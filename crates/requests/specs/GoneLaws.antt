-- The lines of a module that is gone, in letters: one address stands after the verb.
use Rattle.std.specs.Prelude.{◌≡◌, refl, Ok}
use Rattle.text.specs.Chars.{chars}
use Rattle.text.specs.Words.{before, start_from, word_from, part_of}
use Rattle.digits.specs.Numbers.{digit_of, are_digits, value_from, digits_of, is_hex, number_of}
use Rattle.words.specs.Said.{number_at, rest_at}
use Rattle.words.specs.Verbs.{verb_of, codec_verb, shelf_verb, pass_verb, module_verb, choice_verb}
use Rattle.requests.specs.Clear.{unclear}
use Rattle.requests.specs.Requests.{ended, gone_request, request_of}
use Rattle.requests.specs.declared.expected.Expected.TheVariants as expected
use Rattle.requests.specs.declared.request.Request.TheVariants.{Gone}

pub gone_hexadecimal : request_of (chars "gone 0x20") ≡ Ok (Gone 32)
unfolding request_of verb_of codec_verb shelf_verb pass_verb module_verb choice_verb gone_request ended rest_at number_at part_of word_from start_from before number_of is_hex digits_of value_from are_digits digit_of
gone_hexadecimal = refl

-- above 127 too: it is the controller that refuses it
pub gone_above : request_of (chars "gone 128") ≡ Ok (Gone 128)
unfolding request_of verb_of codec_verb shelf_verb pass_verb module_verb choice_verb gone_request ended rest_at number_at part_of word_from start_from before number_of is_hex digits_of value_from are_digits digit_of
gone_above = refl

-- alone, and with another word after the address, it is no request
pub gone_alone : request_of (chars "gone") ≡ unclear expected.Byte 4
unfolding request_of verb_of codec_verb shelf_verb pass_verb module_verb choice_verb gone_request ended rest_at number_at part_of word_from start_from before number_of is_hex digits_of value_from are_digits digit_of
gone_alone = refl

pub gone_more : request_of (chars "gone 9 9") ≡ unclear expected.End 7
unfolding request_of verb_of codec_verb shelf_verb pass_verb module_verb choice_verb gone_request ended rest_at number_at part_of word_from start_from before number_of is_hex digits_of value_from are_digits digit_of
gone_more = refl
