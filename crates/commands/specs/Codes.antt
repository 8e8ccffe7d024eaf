-- The codes of the ARP commands, and their protocols. The code of Prepare To ARP is a data byte, the others are command bytes.
use Rattle.std.specs.Prelude.{ℕ}

abbrev pub prepare_code : ℕ
prepare_code = 0x01

abbrev pub get_code : ℕ
get_code = 0x03

abbrev pub assign_code : ℕ
assign_code = 0x04

-- the protocols of the three commands: Send Byte, Block Read, Block Write
abbrev pub send_byte : ℕ
send_byte = 1

abbrev pub block_read : ℕ
block_read = 9

abbrev pub block_write : ℕ
block_write = 8
