-- The ring show of document 01, row by row and as a file, the show of a single opening row, whose file older desks pad (02, Paper 1), and wait files (02,
-- Paper 5) with a show in which more links are quicker.
use Rattle.std.specs.Prelude.{ℕ, List, [], ◌∷◌, ◌++◌}

-- Its link from cue 2 to cue 1, row 8, has label 2; here any, so that it can be a note.
abbrev pub ring_with : ℕ → List ℕ
ring_with label =
    0 ∷ 0 ∷ 2 ∷ 1 ∷ 0 ∷ 0 ∷ 0 ∷ 0 ∷ 0 ∷ 0 ∷ 0
    ∷ 0 ∷ 1 ∷ 1 ∷ 1 ∷ 3 ∷ 0 ∷ 0 ∷ 0 ∷ 0 ∷ 0 ∷ 0
    ∷ 0 ∷ 1 ∷ 1 ∷ 2 ∷ 1 ∷ 0 ∷ 0 ∷ 0 ∷ 0 ∷ 0 ∷ 0
    ∷ 1 ∷ 0 ∷ 2 ∷ 1 ∷ 0 ∷ 0 ∷ 0 ∷ 0 ∷ 0 ∷ 0 ∷ 0
    ∷ 1 ∷ 2 ∷ 0 ∷ 1 ∷ 3 ∷ 0 ∷ 0 ∷ 0 ∷ 0 ∷ 0 ∷ 0
    ∷ 1 ∷ 2 ∷ 0 ∷ 2 ∷ 1 ∷ 0 ∷ 0 ∷ 0 ∷ 0 ∷ 0 ∷ 0
    ∷ 2 ∷ 0 ∷ 0 ∷ 2 ∷ 0 ∷ 0 ∷ 0 ∷ 0 ∷ 0 ∷ 0 ∷ 0
    ∷ 2 ∷ 1 ∷ label ∷ 2 ∷ 1 ∷ 0 ∷ 0 ∷ 0 ∷ 0 ∷ 0 ∷ 0
    ∷ 2 ∷ 2 ∷ 1 ∷ 1 ∷ 2 ∷ 0 ∷ 0 ∷ 0 ∷ 0 ∷ 0 ∷ 0 ∷ []

abbrev pub ring : List ℕ
ring = ring_with 2

-- The ring show with a note for that link (02, Paper 3).
abbrev pub noted_ring : List ℕ
noted_ring = ring_with 255

-- A single opening row with so many own cues.
abbrev pub opening : ℕ → List ℕ
opening own = 0 ∷ 0 ∷ 0 ∷ own ∷ 0 ∷ 0 ∷ 0 ∷ 0 ∷ 0 ∷ 0 ∷ 0 ∷ []

-- The ring show's file, byte by byte, with the digits of that label.
abbrev pub ring_file_with : List ℕ → List ℕ
ring_file_with label =
    98 ∷ 108 ∷ 111 ∷ 99 ∷ 107 ∷ 44 ∷ 107 ∷ 105 ∷ 110 ∷ 100 ∷ 44 ∷ 108 ∷ 97 ∷ 98 ∷ 101 ∷ 108 ∷ 44 ∷ 97 ∷ 44 ∷ 98 ∷ 44 ∷ 99 ∷ 44 ∷ 100 ∷ 44 ∷ 101 ∷ 44 ∷ 102 ∷ 44 ∷ 103 ∷ 44 ∷ 104 ∷ 10
    ∷ 48 ∷ 44 ∷ 48 ∷ 44 ∷ 50 ∷ 44 ∷ 49 ∷ 44 ∷ 48 ∷ 44 ∷ 48 ∷ 44 ∷ 48 ∷ 44 ∷ 48 ∷ 44 ∷ 48 ∷ 44 ∷ 48 ∷ 44 ∷ 48 ∷ 10
    ∷ 48 ∷ 44 ∷ 49 ∷ 44 ∷ 49 ∷ 44 ∷ 49 ∷ 44 ∷ 51 ∷ 44 ∷ 48 ∷ 44 ∷ 48 ∷ 44 ∷ 48 ∷ 44 ∷ 48 ∷ 44 ∷ 48 ∷ 44 ∷ 48 ∷ 10
    ∷ 48 ∷ 44 ∷ 49 ∷ 44 ∷ 49 ∷ 44 ∷ 50 ∷ 44 ∷ 49 ∷ 44 ∷ 48 ∷ 44 ∷ 48 ∷ 44 ∷ 48 ∷ 44 ∷ 48 ∷ 44 ∷ 48 ∷ 44 ∷ 48 ∷ 10
    ∷ 49 ∷ 44 ∷ 48 ∷ 44 ∷ 50 ∷ 44 ∷ 49 ∷ 44 ∷ 48 ∷ 44 ∷ 48 ∷ 44 ∷ 48 ∷ 44 ∷ 48 ∷ 44 ∷ 48 ∷ 44 ∷ 48 ∷ 44 ∷ 48 ∷ 10
    ∷ 49 ∷ 44 ∷ 50 ∷ 44 ∷ 48 ∷ 44 ∷ 49 ∷ 44 ∷ 51 ∷ 44 ∷ 48 ∷ 44 ∷ 48 ∷ 44 ∷ 48 ∷ 44 ∷ 48 ∷ 44 ∷ 48 ∷ 44 ∷ 48 ∷ 10
    ∷ 49 ∷ 44 ∷ 50 ∷ 44 ∷ 48 ∷ 44 ∷ 50 ∷ 44 ∷ 49 ∷ 44 ∷ 48 ∷ 44 ∷ 48 ∷ 44 ∷ 48 ∷ 44 ∷ 48 ∷ 44 ∷ 48 ∷ 44 ∷ 48 ∷ 10
    ∷ 50 ∷ 44 ∷ 48 ∷ 44 ∷ 48 ∷ 44 ∷ 50 ∷ 44 ∷ 48 ∷ 44 ∷ 48 ∷ 44 ∷ 48 ∷ 44 ∷ 48 ∷ 44 ∷ 48 ∷ 44 ∷ 48 ∷ 44 ∷ 48 ∷ 10
    ∷ 50 ∷ 44 ∷ 49 ∷ 44 ∷ []
    ++ label
    ++ 44 ∷ 50 ∷ 44 ∷ 49 ∷ 44 ∷ 48 ∷ 44 ∷ 48 ∷ 44 ∷ 48 ∷ 44 ∷ 48 ∷ 44 ∷ 48 ∷ 44 ∷ 48 ∷ 10
    ∷ 50 ∷ 44 ∷ 50 ∷ 44 ∷ 49 ∷ 44 ∷ 49 ∷ 44 ∷ 50 ∷ 44 ∷ 48 ∷ 44 ∷ 48 ∷ 44 ∷ 48 ∷ 44 ∷ 48 ∷ 44 ∷ 48 ∷ 44 ∷ 48 ∷ 10 ∷ []

abbrev pub ring_file : List ℕ
ring_file = ring_file_with (50 ∷ [])

abbrev pub noted_file : List ℕ
noted_file = ring_file_with (50 ∷ 53 ∷ 53 ∷ [])

-- The file of a single opening row with one own cue, and the same padded to five digits.
abbrev pub opening_file : List ℕ
opening_file =
    98 ∷ 108 ∷ 111 ∷ 99 ∷ 107 ∷ 44 ∷ 107 ∷ 105 ∷ 110 ∷ 100 ∷ 44 ∷ 108 ∷ 97 ∷ 98 ∷ 101 ∷ 108 ∷ 44 ∷ 97 ∷ 44 ∷ 98 ∷ 44 ∷ 99 ∷ 44 ∷ 100 ∷ 44 ∷ 101 ∷ 44 ∷ 102 ∷ 44 ∷ 103 ∷ 44 ∷ 104 ∷ 10
    ∷ 48 ∷ 44 ∷ 48 ∷ 44 ∷ 48 ∷ 44 ∷ 49 ∷ 44 ∷ 48 ∷ 44 ∷ 48 ∷ 44 ∷ 48 ∷ 44 ∷ 48 ∷ 44 ∷ 48 ∷ 44 ∷ 48 ∷ 44 ∷ 48 ∷ 10 ∷ []

abbrev pub padded_file : List ℕ
padded_file =
    98 ∷ 108 ∷ 111 ∷ 99 ∷ 107 ∷ 44 ∷ 107 ∷ 105 ∷ 110 ∷ 100 ∷ 44 ∷ 108 ∷ 97 ∷ 98 ∷ 101 ∷ 108 ∷ 44 ∷ 97 ∷ 44 ∷ 98 ∷ 44 ∷ 99 ∷ 44 ∷ 100 ∷ 44 ∷ 101 ∷ 44 ∷ 102 ∷ 44 ∷ 103 ∷ 44 ∷ 104 ∷ 10
    ∷ 48 ∷ 48 ∷ 48 ∷ 48 ∷ 48 ∷ 44 ∷ 48 ∷ 48 ∷ 48 ∷ 48 ∷ 48 ∷ 44 ∷ 48 ∷ 48 ∷ 48 ∷ 48 ∷ 48 ∷ 44
    ∷ 48 ∷ 48 ∷ 48 ∷ 48 ∷ 49 ∷ 44 ∷ 48 ∷ 48 ∷ 48 ∷ 48 ∷ 48 ∷ 44 ∷ 48 ∷ 48 ∷ 48 ∷ 48 ∷ 48 ∷ 44
    ∷ 48 ∷ 48 ∷ 48 ∷ 48 ∷ 48 ∷ 44 ∷ 48 ∷ 48 ∷ 48 ∷ 48 ∷ 48 ∷ 44 ∷ 48 ∷ 48 ∷ 48 ∷ 48 ∷ 48 ∷ 44
    ∷ 48 ∷ 48 ∷ 48 ∷ 48 ∷ 48 ∷ 44 ∷ 48 ∷ 48 ∷ 48 ∷ 48 ∷ 48 ∷ 10 ∷ []

-- What the unfolding program prints for the ring, with the digits of that label.
abbrev pub ring_printed_with : List ℕ → List ℕ
ring_printed_with label =
    102 ∷ 114 ∷ 111 ∷ 109 ∷ 44 ∷ 116 ∷ 111 ∷ 44 ∷ 108 ∷ 97 ∷ 98 ∷ 101 ∷ 108 ∷ 10
    ∷ 49 ∷ 44 ∷ 53 ∷ 44 ∷ 49 ∷ 10
    ∷ 50 ∷ 44 ∷ 49 ∷ 44 ∷ []
    ++ label
    ++ 10
    ∷ 51 ∷ 44 ∷ 52 ∷ 44 ∷ 49 ∷ 10
    ∷ 52 ∷ 44 ∷ 50 ∷ 44 ∷ 49 ∷ 10
    ∷ 53 ∷ 44 ∷ 51 ∷ 44 ∷ 49 ∷ 10 ∷ []

abbrev pub ring_printed : List ℕ
ring_printed = ring_printed_with (50 ∷ [])

abbrev pub noted_printed : List ℕ
noted_printed = ring_printed_with (50 ∷ 53 ∷ 53 ∷ [])

-- Three own cues: one link of label 3 from cue 1 to cue 2, and two of label 1 by way of cue 3.
abbrev pub detour : List ℕ
detour =
    0 ∷ 0 ∷ 0 ∷ 3 ∷ 0 ∷ 0 ∷ 0 ∷ 0 ∷ 0 ∷ 0 ∷ 0
    ∷ 0 ∷ 1 ∷ 3 ∷ 1 ∷ 2 ∷ 0 ∷ 0 ∷ 0 ∷ 0 ∷ 0 ∷ 0
    ∷ 0 ∷ 1 ∷ 1 ∷ 1 ∷ 3 ∷ 0 ∷ 0 ∷ 0 ∷ 0 ∷ 0 ∷ 0
    ∷ 0 ∷ 1 ∷ 1 ∷ 3 ∷ 2 ∷ 0 ∷ 0 ∷ 0 ∷ 0 ∷ 0 ∷ 0 ∷ []

-- A wait file with these bytes behind its names, which stand alone if there are none.
abbrev pub waits_of : List ℕ → List ℕ
waits_of lines = 108 ∷ 97 ∷ 98 ∷ 101 ∷ 108 ∷ 44 ∷ 119 ∷ 97 ∷ 105 ∷ 116 ∷ 10 ∷ lines

-- 1,10; with 2,25 behind it; 1,6000 and 2,6000; 1,10 and 3,50.
abbrev pub ones_wait : List ℕ
ones_wait = waits_of (49 ∷ 44 ∷ 49 ∷ 48 ∷ 10 ∷ [])

abbrev pub ring_waits : List ℕ
ring_waits = waits_of (49 ∷ 44 ∷ 49 ∷ 48 ∷ 10 ∷ 50 ∷ 44 ∷ 50 ∷ 53 ∷ 10 ∷ [])

abbrev pub long_waits : List ℕ
long_waits = waits_of (49 ∷ 44 ∷ 54 ∷ 48 ∷ 48 ∷ 48 ∷ 10 ∷ 50 ∷ 44 ∷ 54 ∷ 48 ∷ 48 ∷ 48 ∷ 10 ∷ [])

abbrev pub detour_waits : List ℕ
detour_waits = waits_of (49 ∷ 44 ∷ 49 ∷ 48 ∷ 10 ∷ 51 ∷ 44 ∷ 53 ∷ 48 ∷ 10 ∷ [])

-- 1,6001, 1,1 and a line without its wait; 2,1, 1,1 and 1,6001; 2,1 twice.
abbrev pub cut_waits : List ℕ
cut_waits = waits_of (49 ∷ 44 ∷ 54 ∷ 48 ∷ 48 ∷ 49 ∷ 10 ∷ 49 ∷ 44 ∷ 49 ∷ 10 ∷ 49 ∷ 10 ∷ [])

abbrev pub outside_waits : List ℕ
outside_waits = waits_of (50 ∷ 44 ∷ 49 ∷ 10 ∷ 49 ∷ 44 ∷ 49 ∷ 10 ∷ 49 ∷ 44 ∷ 54 ∷ 48 ∷ 48 ∷ 49 ∷ 10 ∷ [])

abbrev pub twice_waits : List ℕ
twice_waits = waits_of (50 ∷ 44 ∷ 49 ∷ 10 ∷ 50 ∷ 44 ∷ 49 ∷ 10 ∷ [])
