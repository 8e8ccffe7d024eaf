-- The protocols by their names, and the limits of a transaction.
use Rattle.std.specs.Prelude.{ℕ}

abbrev pub quick : ℕ
quick = 0

abbrev pub send_byte : ℕ
send_byte = 1

abbrev pub receive_byte : ℕ
receive_byte = 2

abbrev pub write_byte : ℕ
write_byte = 3

abbrev pub write_word : ℕ
write_word = 4

abbrev pub read_byte : ℕ
read_byte = 5

abbrev pub read_word : ℕ
read_word = 6

abbrev pub process_call : ℕ
process_call = 7

abbrev pub block_write : ℕ
block_write = 8

abbrev pub block_read : ℕ
block_read = 9

abbrev pub block_process_call : ℕ
block_process_call = 10

-- the most bytes of data in one direction
abbrev pub most_data : ℕ
most_data = 255

-- the most that the counts of a transaction say together
abbrev pub most_counted : ℕ
most_counted = 255

-- the symbols of the longest trace
abbrev pub longest_trace : ℕ
longest_trace = 525
