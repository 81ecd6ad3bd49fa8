-- Laws of the pieces of the replacement encoding.
use Rattle.std.proofs.Common.{◌≡◌, ◌∙◌, ℕ, ◌+◌, ◌≤◌, ◌<◌, Bool, true, false, List, [], ◌∷◌, length, map, refl, sym, ap, subst, arith, lit<, lit≤}
use Rattle.encoding_mem.specs.Piece.{Piece, well_formed, malformed, sizes, ArePieces}
use Rattle.encoding_mem.specs.Pieces.{pieces_in}
use Rattle.encoding_mem.specs.laws.Pieces.{AllCut, pieces_in-nil, pieces_in-cons, pieces_in-whole, pieces_in-are_pieces}
use Rattle.encoding_mem.specs.laws.Utf8.{cuts_malformed}
use Rattle.encoding_mem.specs.calls.DecoderRule.{TellsFirstPiece, HasRoomFor}
use Rattle.encoding_mem.specs.calls.DecodedLength.{is_units, counts_past_malformed, replacement_len, left_after, decoded_length, decoded_length_replacement}
use Rattle.encoding_mem.specs.laws.Shows.{Shows, shows_first_piece_in}
use Rattle.encoding_mem.specs.declared.codec.first_piece.FirstPiece.{FirstPiece}
use Rattle.encoding_mem.specs.declared.codec.first_piece.FirstPiece.TheVariants.{Ignored, Malformed}
use Rattle.encoding_mem.specs.declared.codec.room.OutputUnit.{OutputUnit}
use Rattle.encoding_mem.specs.declared.codec.room.OutputUnit.TheVariants.{Units, Bytes, Replaced}
use Rattle.encoding_tables.specs.Replacement.{pieces_replacement}

-- the first piece of bytes in replacement, by whether the error was returned before
abbrev pub first_piece_replacement : (error_returned : Bool) → List ℕ → Piece
first_piece_replacement false x = malformed 1
first_piece_replacement true x = well_formed 1 []

-- whether it was returned, after a byte
abbrev pub after_replacement : (error_returned : Bool) → List ℕ → Bool
after_replacement error_returned x = true

-- the pieces of bytes in replacement, by whether the error was returned before
abbrev pub replacement_left : (error_returned : Bool) → List ℕ → List Piece
replacement_left = pieces_in first_piece_replacement after_replacement

pub cuts_replacement : AllCut first_piece_replacement
cuts_replacement false b x = cuts_malformed 1 (1 + length x) (lit< tt) (omega arith)
cuts_replacement true b x = record { piece = record { some = lit< tt; few = omega arith; at_most_two = omega arith; are_scalars = refl }; within = omega arith }

-- after the error each byte is ignored, and a new stream begins with the error
pub all_ignored : (x : List ℕ) → replacement_left true x ≡ map (λ _. well_formed 1 []) x
all_ignored [] = pieces_in-nil first_piece_replacement after_replacement true
all_ignored (b ∷ x) = pieces_in-cons first_piece_replacement after_replacement cuts_replacement true b x ∙ ap (λ ps. well_formed 1 [] ∷ ps) (all_ignored x)

pub all_left : (x : List ℕ) → replacement_left false x ≡ pieces_replacement x
all_left [] = pieces_in-nil first_piece_replacement after_replacement false
all_left (b ∷ x) = pieces_in-cons first_piece_replacement after_replacement cuts_replacement false b x ∙ ap (λ ps. malformed 1 ∷ ps) (all_ignored x)

pub replacement_whole : (x : List ℕ) → sizes (pieces_replacement x) ≡ length x
replacement_whole x = ap sizes (sym (all_left x)) ∙ pieces_in-whole first_piece_replacement after_replacement cuts_replacement false x

pub replacement_are_pieces : (x : List ℕ) → ArePieces (pieces_replacement x)
replacement_are_pieces x = subst ArePieces (all_left x) (pieces_in-are_pieces first_piece_replacement after_replacement cuts_replacement false x)

-- what a look at the first byte shows
abbrev pub decide_replacement : (error_returned : Bool) → FirstPiece
decide_replacement false = Malformed 1
decide_replacement true = Ignored 1

shows_replacement : (e : Bool) (x : List ℕ) (last : Bool) → 0 < length x → Shows (first_piece_replacement e) 0 x last (decide_replacement e)
shows_replacement false x last some = ((lit< tt, omega (arith, some), λ r h. refl), lit≤ tt)
shows_replacement true x last some = (lit< tt, omega (arith, some), λ r h. refl)

pub replacement_first_piece : (e : Bool) (x : List ℕ) (last : Bool) → 0 < length x → TellsFirstPiece (replacement_left e) (replacement_left true) x last (decide_replacement e)
replacement_first_piece e x last some =
    shows_first_piece_in first_piece_replacement after_replacement cuts_replacement e true x last (decide_replacement e) some (λ _ r h. refl) (shows_replacement e x last some)

-- the first byte decides
pub decided_by_one : (e : Bool) (b : ℕ) (x y : List ℕ) → first_piece_replacement e (b ∷ x) ≡ first_piece_replacement e (b ∷ y)
decided_by_one false b x y = refl
decided_by_one true b x y = refl

-- room is needed for the one error, and none once it was returned
abbrev pub replacement_needs : (error_returned : Bool) → OutputUnit → ℕ → ℕ
replacement_needs false k m = decoded_length decoded_length_replacement k m
replacement_needs true k m = 0

pub replacement_covers : (e : Bool) (k : OutputUnit) (m : ℕ) → replacement_needs e k m ≤ decoded_length decoded_length_replacement k m
replacement_covers false k m = omega arith
replacement_covers true k m = omega arith

error_fits : (k : OutputUnit) (m : ℕ) → left_after (counts_past_malformed k) (replacement_len (is_units k)) 0 ≤ decoded_length decoded_length_replacement k m
error_fits Units m = omega arith
error_fits Bytes m = omega arith
error_fits Replaced m = omega arith

pub replacement_roomy : (e : Bool) (len : ℕ) (last : Bool) → HasRoomFor (replacement_needs e) (replacement_needs true) len last (decide_replacement e)
replacement_roomy false len last = λ k m _. error_fits k (1 + m)
replacement_roomy true len last = λ k m _. lit≤ tt
