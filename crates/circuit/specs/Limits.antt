-- Document 01's limits, and the words of the notes.
use Rattle.std.specs.Prelude.{ℕ}

-- the most words of a table; the most wires of a circuit, and the length of value and reading sheets
abbrev pub table_limit : ℕ
table_limit = 8192

abbrev pub wire_limit : ℕ
wire_limit = 8192

-- the fewest words of the notes: two for each wire
abbrev pub notes_room : ℕ
notes_room = 16384

-- the highest stage; the number of shares, d
abbrev pub stage_limit : ℕ
stage_limit = 255

abbrev pub fewest_shares : ℕ
fewest_shares = 2

abbrev pub most_shares : ℕ
most_shares = 8

-- what the notes add to the label of a registered wire; the word that they hold twice for an inner wire
abbrev pub registered_note : ℕ
registered_note = 8

abbrev pub inner_note : ℕ
inner_note = 0xFFFF
