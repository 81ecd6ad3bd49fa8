-- Laws of the rule of the encodings with characters of two bytes. Each is there for the whole rule, and for the parts
-- from which a longer rule is built.
use Rattle.std.proofs.Common.{◌≡◌, ℕ, suc, ◌+◌, ◌<◌, ◌≤◌, Bool, true, false, cond, nat_lt, List, [], ◌∷◌, length, refl, ap, ◌∙◌, arith}
use Rattle.std.specs.Char.{IsScalar}
use Rattle.std.proofs.lemmas.Bool.{ltb-true, lt-ltb, and_from}
use Rattle.std.proofs.lemmas.Bool.Decides.{nat_tests}
use Rattle.std.proofs.Math.Utf8.{scalar}
use Rattle.encoding_mem.specs.Piece.{Piece, well_formed, malformed, piece_len, Cuts}
use Rattle.encoding_mem.specs.Pieces.{pieces_by}
use Rattle.encoding_mem.specs.laws.Pieces.{CutsEach}
use Rattle.encoding_mem.specs.laws.Shows.{Shows, shows_cond, shows_cons, shows_const, shows_first_piece}
use Rattle.encoding_mem.specs.calls.DecoderRule.{TellsFirstPiece, IsModest, cut_short}
use Rattle.encoding_mem.specs.laws.Utf8.{cuts_cond, cuts_malformed, cuts_one}
use Rattle.encoding_mem.specs.laws.Writing.{cost_fits, cost_fits16}
use Rattle.encoding_mem.specs.declared.codec.first_piece.FirstPiece.{FirstPiece}
use Rattle.encoding_mem.specs.declared.codec.first_piece.FirstPiece.TheVariants.{Malformed}
use Rattle.encoding_mem.specs.Decided.{AreBytes}
use Rattle.encoding_codecs.specs.TwoByte.{first_piece_by_lead, piece_of_first, piece_of_trail, after_bytes, first_piece_two_byte}
use Rattle.encoding_codecs.specs.laws.TwoByteDecide.{decide_of_first, decide_by_lead, decide_trail, decide_after}
use Rattle.encoding_codecs.specs.declared.lead_byte_rule.FirstByte.{FirstByte}
use Rattle.encoding_codecs.specs.declared.lead_byte_rule.FirstByte.TheVariants.{Alone, Lead, Unused}
use Rattle.encoding_codecs.specs.declared.two_byte.PairValue.{PairValue}
use Rattle.encoding_codecs.specs.declared.two_byte.PairValue.TheVariants.{NoChar, OneChar, TwoChars}
use Rattle.encoding_codecs.specs.calls.TwoByteRule.{IsFirstByte, TwoByteRule, IsPairValue, IsTwoByte}

-- ---- what is shown of the first piece

-- The n bytes before end here. If more bytes come, the piece may have another size, as with FF for a lead.
pub shows_end : (f : List ℕ → Piece) (n : ℕ) (last : Bool) (more : List ℕ) → 0 < n → n ≤ 3 → f [] ≡ malformed n → AreBytes more → length more ≤ 3
    → (piece_len (f more) ≡ n → ⊥) → ((x : List ℕ) → 0 < piece_len (f x)) → Shows f n [] last (cut_short n last)
shows_end f n true more some few now bytes short then each = ((some, omega arith, λ r e. ap f (e refl) ∙ now), omega arith)
shows_end f n false more some few now bytes short then each = record {
  goes_on = refl;
  short = omega arith;
  more = more;
  bytes = bytes;
  few = short;
  differs = λ e. then (omega (arith, ap piece_len e, ap piece_len now));
  soon = λ r. omega (arith, each r, few);
}

-- the size of what a trail ends
some_trail : (n : ℕ) (v : PairValue) (b : ℕ) → 0 < n → 0 < piece_len (piece_of_trail n v b)
some_trail n NoChar b some = some_cond (nat_lt b 0x80)
  where
    some_cond : (t : Bool) → 0 < piece_len (cond t (malformed n) (malformed (n + 1)))
    some_cond true = some
    some_cond false = omega arith
some_trail n (OneChar c) b some = omega arith
some_trail n (TwoChars c d) b some = omega arith

pub some_after : (n : ℕ) (value : ℕ → PairValue) (x : List ℕ) → 0 < n → 0 < piece_len (after_bytes n value x)
some_after n value [] some = some
some_after n value (b ∷ x) some = some_trail n (value b) b some

-- FF is read with the bytes before it
size_of-last_trail : (n : ℕ) (v : PairValue) → piece_len (piece_of_trail n v 0xFF) ≡ n + 1
size_of-last_trail n NoChar = refl
size_of-last_trail n (OneChar c) = refl
size_of-last_trail n (TwoChars c d) = refl

pub shows_trail : (n : ℕ) (v : PairValue) (b : ℕ) (x : List ℕ) (last : Bool) → 0 < n → n ≤ 3 → IsPairValue v
    → Shows (λ _. piece_of_trail n v b) (suc n) x last (decide_trail n v b)
shows_trail n NoChar b x last some few is =
    shows_cond (nat_lt b 0x80) (λ _. malformed n) (λ _. malformed (n + 1)) (suc n) x last (Malformed n) (Malformed (n + 1))
    (shows_const (malformed n) (suc n) x last some (omega arith), omega arith)
    (shows_const (malformed (n + 1)) (suc n) x last (omega arith) (omega arith), omega arith)
shows_trail n (OneChar c) b x last some few is = shows_const (well_formed (n + 1) (c ∷ [])) (suc n) x last (omega arith) (omega arith)
shows_trail n (TwoChars c d) b x last some few is = (shows_const (well_formed (n + 1) (c ∷ d ∷ [])) (suc n) x last (omega arith) (omega arith), is.2, is.3)

pub shows_after : (n : ℕ) (value : ℕ → PairValue) (x : List ℕ) (last : Bool) → 0 < n → n ≤ 3 → ((b : ℕ) → IsPairValue (value b))
    → Shows (after_bytes n value) n x last (decide_after n value x last)
shows_after n value [] last some few is =
    shows_end (after_bytes n value) n last (0xFF ∷ []) some few refl (omega arith, tt) (omega arith)
    (λ e. omega (arith, e, size_of-last_trail n (value 0xFF))) (λ x. some_after n value x some)
shows_after n value (b ∷ x) last some few is =
    shows_cons (after_bytes n value) n b x last (decide_trail n (value b) b) (shows_trail n (value b) b x last some few (is b))

shows_first : (o : FirstByte) (after : List ℕ → Piece) (x : List ℕ) (last : Bool) (F : FirstPiece) → (o ≡ Lead → Shows after 1 x last F)
    → Shows (λ y. piece_of_first o (after y)) 1 x last (decide_of_first o F)
shows_first (Alone c) after x last F h = shows_const (well_formed 1 (c ∷ [])) 1 x last (omega arith) (omega arith)
shows_first Lead after x last F h = h refl
shows_first Unused after x last F h = (shows_const (malformed 1) 1 x last (omega arith) (omega arith), omega arith)

pub shows_by_lead : (first : ℕ → FirstByte) (after : ℕ → List ℕ → Piece) (decide : ℕ → List ℕ → Bool → FirstPiece)
    → ((a : ℕ) (x : List ℕ) (last : Bool) → first a ≡ Lead → Shows (after a) 1 x last (decide a x last))
    → (x : List ℕ) (last : Bool) → 0 < length x → Shows (first_piece_by_lead first after) 0 x last (decide_by_lead first decide x last)
shows_by_lead first after decide h [] last some = absurd (omega (arith, some))
shows_by_lead first after decide h (a ∷ x) last some =
    shows_cons (first_piece_by_lead first after) 0 a x last _
    (shows_cond (nat_lt a 0x80) (λ _. well_formed 1 (a ∷ [])) (λ y. piece_of_first (first a) (after a y)) 1 x last _ _
    (shows_const (well_formed 1 (a ∷ [])) 1 x last (omega arith) (omega arith))
    (shows_first (first a) (after a) x last (decide a x last) (h a x last)))

-- ---- each first piece is some of the bytes

cuts_two : (n c d k : ℕ) → 1 < n → n ≤ k → IsScalar c → IsScalar d → Cuts (well_formed n (c ∷ d ∷ [])) k
cuts_two n c d k some fits is also = record {
  piece = record { some = omega (arith, some); few = some; at_most_two = omega arith; are_scalars = and_from (scalar c) _ is (and_from (scalar d) true also refl) };
  within = fits;
}

pub cuts_trail : (n : ℕ) (v : PairValue) (b k : ℕ) → 0 < n → n < k → IsPairValue v → Cuts (piece_of_trail n v b) k
cuts_trail n NoChar b k some fits is =
    cuts_cond (nat_lt b 0x80) (malformed n) (malformed (n + 1)) k (λ _. cuts_malformed n k some (omega arith)) (λ _. cuts_malformed (n + 1) k (omega arith) (omega arith))
cuts_trail n (OneChar c) b k some fits is = cuts_one (n + 1) c k (omega arith) (omega arith) is
cuts_trail n (TwoChars c d) b k some fits is = cuts_two (n + 1) c d k (omega arith) (omega arith) is.0 is.1

pub cuts_after : (n : ℕ) (value : ℕ → PairValue) (x : List ℕ) → 0 < n → ((b : ℕ) → IsPairValue (value b)) → Cuts (after_bytes n value x) (n + length x)
cuts_after n value [] some is = cuts_malformed n _ some (omega arith)
cuts_after n value (b ∷ x) some is = cuts_trail n (value b) b _ some (omega arith) (is b)

cuts_first : (o : FirstByte) (p : Piece) (k : ℕ) → 0 < k → IsFirstByte o → (o ≡ Lead → Cuts p k) → Cuts (piece_of_first o p) k
cuts_first (Alone c) p k some is h = cuts_one 1 c k (omega arith) some is.0
cuts_first Lead p k some is h = h refl
cuts_first Unused p k some is h = cuts_malformed 1 k (omega arith) some

pub scalar_ascii : (a : ℕ) → a < 0x80 → IsScalar a
scalar_ascii a low = grind (arith, nat_tests)

pub cuts_by_lead : (first : ℕ → FirstByte) (after : ℕ → List ℕ → Piece) → ((a : ℕ) → IsFirstByte (first a))
    → ((a : ℕ) (x : List ℕ) → first a ≡ Lead → Cuts (after a x) (1 + length x)) → CutsEach (first_piece_by_lead first after)
cuts_by_lead first after is h a x =
    cuts_cond (nat_lt a 0x80) (well_formed 1 (a ∷ [])) (piece_of_first (first a) (after a x)) (1 + length x)
    (λ t. cuts_one 1 a _ (omega arith) (omega arith) (scalar_ascii a (ltb-true a 0x80 t)))
    (λ _. cuts_first (first a) (after a x) (1 + length x) (omega arith) (is a) (h a x))

-- ---- room

pub modest_cond : (t : Bool) (F G : FirstPiece) → IsModest F → IsModest G → IsModest (cond t F G)
modest_cond true F G h k = h
modest_cond false F G h k = k

pub modest_cut : (n : ℕ) (last : Bool) → 0 < n → IsModest (cut_short n last)
modest_cut n true some = some
modest_cut n false some = tt

pub modest_trail : (n : ℕ) (v : PairValue) (b : ℕ) → 0 < n → IsPairValue v → IsModest (decide_trail n v b)
modest_trail n NoChar b some is = modest_cond (nat_lt b 0x80) (Malformed n) (Malformed (n + 1)) some (omega arith)
modest_trail n (OneChar c) b some is = (omega (arith, cost_fits c, some), omega (arith, cost_fits16 c, some))
modest_trail n (TwoChars c d) b some is = (is.2, is.3, omega arith)

pub modest_after : (n : ℕ) (value : ℕ → PairValue) (x : List ℕ) (last : Bool) → 0 < n → ((b : ℕ) → IsPairValue (value b)) → IsModest (decide_after n value x last)
modest_after n value [] last some is = modest_cut n last some
modest_after n value (b ∷ x) last some is = modest_trail n (value b) b some (is b)

-- ASCII is itself, whatever follows
pub lead_ascii : (first : ℕ → FirstByte) (after : ℕ → List ℕ → Piece) (a : ℕ) (x : List ℕ) → a < 0x80 → first_piece_by_lead first after (a ∷ x) ≡ well_formed 1 (a ∷ [])
lead_ascii first after a x low = rw (lt-ltb a 0x80 low) refl

-- ---- a whole rule

-- What the pieces of leads have to be, and what decide says of them.
pub record IsLeadByteRule (first : ℕ → FirstByte) (after : ℕ → List ℕ → Piece) (decide : ℕ → List ℕ → Bool → FirstPiece) : Type 0 where
  pub firsts : (a : ℕ) → IsFirstByte (first a)
  pub cuts : (a : ℕ) (x : List ℕ) → first a ≡ Lead → Cuts (after a x) (1 + length x)
  pub shows : (a : ℕ) (x : List ℕ) (last : Bool) → first a ≡ Lead → Shows (after a) 1 x last (decide a x last)
  pub modest : (a : ℕ) (x : List ℕ) (last : Bool) → first a ≡ Lead → IsModest (decide a x last)

pub cuts_rule : (first : ℕ → FirstByte) (after : ℕ → List ℕ → Piece) (decide : ℕ → List ℕ → Bool → FirstPiece) → IsLeadByteRule first after decide
    → CutsEach (first_piece_by_lead first after)
cuts_rule first after decide is = cuts_by_lead first after is.firsts is.cuts

pub rule_first_piece : (first : ℕ → FirstByte) (after : ℕ → List ℕ → Piece) (decide : ℕ → List ℕ → Bool → FirstPiece) → IsLeadByteRule first after decide
    → (x : List ℕ) (last : Bool) → 0 < length x
    → TellsFirstPiece (pieces_by (first_piece_by_lead first after)) (pieces_by (first_piece_by_lead first after)) x last (decide_by_lead first decide x last)
rule_first_piece first after decide is x last some =
    shows_first_piece (first_piece_by_lead first after) (cuts_rule first after decide is) x last (decide_by_lead first decide x last) some
    (shows_by_lead first after decide is.shows x last some)

-- that of an encoding of one and two bytes
pub two_byte_rule : (e : TwoByteRule) → IsTwoByte e → IsLeadByteRule e.first (λ a. after_bytes 1 (e.pair a)) (λ a. decide_after 1 (e.pair a))
two_byte_rule e is = record {
  firsts = is.firsts;
  cuts = λ a x _. cuts_after 1 (e.pair a) x (omega arith) (is.pairs a);
  shows = λ a x last _. shows_after 1 (e.pair a) x last (omega arith) (omega arith) (is.pairs a);
  modest = λ a x last _. modest_after 1 (e.pair a) x last (omega arith) (is.pairs a);
}

pub cuts_two_byte : (e : TwoByteRule) → IsTwoByte e → CutsEach (first_piece_two_byte e.first e.pair)
cuts_two_byte e is = cuts_rule e.first (λ a. after_bytes 1 (e.pair a)) (λ a. decide_after 1 (e.pair a)) (two_byte_rule e is)
