-- The lines of a choice, in letters.
use Rattle.std.specs.Prelude.{◌≡◌, refl, Ok}
use Rattle.text.specs.Chars.{chars}
use Rattle.text.specs.Words.{before, start_from, word_from, part_of}
use Rattle.digits.specs.Numbers.{digit_of, are_digits, value_from, digits_of, is_hex, number_of}
use Rattle.words.specs.Said.{number_at, rest_at}
use Rattle.words.specs.Verbs.{verb_of, codec_verb, shelf_verb, pass_verb, module_verb, choice_verb}
use Rattle.requests.specs.Lists.{numbers_end}
use Rattle.requests.specs.Clear.{unclear}
use Rattle.requests.specs.Requests.{ended, choose_request, request_of}
use Rattle.requests.specs.declared.expected.Expected.TheVariants as expected
use Rattle.requests.specs.declared.request.Request.TheVariants.{Choose, Issue, Decline}

pub choose_symbols : request_of (chars "choose 256 0xc2") ≡ Ok (Choose 6)
unfolding request_of verb_of codec_verb shelf_verb pass_verb module_verb choice_verb choose_request numbers_end number_at part_of word_from start_from before number_of is_hex digits_of value_from are_digits digit_of
choose_symbols = refl

-- alone it hears no symbol
pub choose_alone : request_of (chars "choose") ≡ Ok (Choose 6)
unfolding request_of verb_of codec_verb shelf_verb pass_verb module_verb choice_verb choose_request numbers_end number_at part_of word_from start_from before number_of is_hex digits_of
choose_alone = refl

pub choose_word : request_of (chars "choose 256 x") ≡ unclear expected.Symbol 11
unfolding request_of verb_of codec_verb shelf_verb pass_verb module_verb choice_verb choose_request numbers_end number_at part_of word_from start_from before number_of is_hex digits_of value_from are_digits digit_of
choose_word = refl

-- the other two have no words
pub issue_alone : request_of (chars "issue") ≡ Ok Issue
unfolding request_of verb_of codec_verb shelf_verb pass_verb module_verb choice_verb ended rest_at part_of word_from start_from before
issue_alone = refl

pub issue_more : request_of (chars "issue 256") ≡ unclear expected.End 6
unfolding request_of verb_of codec_verb shelf_verb pass_verb module_verb choice_verb ended rest_at part_of word_from start_from before
issue_more = refl

pub decline_alone : request_of (chars "decline") ≡ Ok Decline
unfolding request_of verb_of codec_verb shelf_verb pass_verb module_verb choice_verb ended rest_at part_of word_from start_from before
decline_alone = refl

pub decline_more : request_of (chars "decline 256") ≡ unclear expected.End 8
unfolding request_of verb_of codec_verb shelf_verb pass_verb module_verb choice_verb ended rest_at part_of word_from start_from before
decline_more = refl
