-- The limits of documents 01 and 02, each by name.
use Rattle.std.specs.Prelude.{ℕ}

-- "eleven 32-bit unsigned numbers": how many values a row has.
abbrev pub row_size : ℕ
row_size = 11

-- "A value is 0 to 65,535".
abbrev pub max_value : ℕ
max_value = 65535

-- "one to five digits" (02, Paper 1).
abbrev pub max_digits : ℕ
max_digits = 5

-- "label is its joins (0 to 8)".
abbrev pub max_joins : ℕ
max_joins = 8

-- "a is its own cues (0 to 255)".
abbrev pub max_own : ℕ
max_own = 255

-- "Kind 1 is a link (a follow-on): label 1 to 255".
abbrev pub max_label : ℕ
max_label = 255

-- "a chain has only links with labels 1 to 254" (02, Paper 3).
abbrev pub max_followed : ℕ
max_followed = 254

-- "its wait of 0 to 6,000 tenths of a second" (02, Paper 5).
abbrev pub max_wait : ℕ
max_wait = 6000

-- "Blocks run 0, 1, 2 and on without a gap, at most 128."
abbrev pub max_blocks : ℕ
max_blocks = 128

-- "A file has at most 65,536 bytes and 1 to 1,024 rows."
abbrev pub max_bytes : ℕ
max_bytes = 65536

abbrev pub max_rows : ℕ
max_rows = 1024

-- "Each desk ships a built-in table of 168 rows, sixteen blocks numbered 0 to 15" (02, Paper 4).
abbrev pub desk_rows : ℕ
desk_rows = 168

abbrev pub desk_blocks : ℕ
desk_blocks = 16

-- "No total may exceed 2,147,483,647."
abbrev pub max_total : ℕ
max_total = 2147483647

-- "the depth is the length of this path, 0 to 127"; a lent path list has at least as many places.
abbrev pub max_depth : ℕ
max_depth = 127

-- "Fewest needs a work area of at least 16,384 32-bit numbers."
abbrev pub work_size : ℕ
work_size = 16384

-- "its first 64 × blocks numbers hold the summaries", "at place 64 × k + 8 × (i − 1) + (j − 1)": how many numbers a block's summary has,
-- and how many of them belong to each join.
abbrev pub summary_size : ℕ
summary_size = 64

abbrev pub summary_width : ℕ
summary_width = 8

-- "It is 4,294,967,295 where the block lacks either join or has no chain".
abbrev pub no_chain : ℕ
no_chain = 4294967295

-- "Over 1,000 cues it prints `cues` and the count on two lines".
abbrev pub printed_cues : ℕ
printed_cues = 1000
