-- What the parser's questions about a token answer, said of items.
use Rattle.std.proofs.Common.{◌≡◌, ℕ, zero, suc, ◌<◌, ◌≤◌, List, [], ◌∷◌, length, slice_index_or, Some, None, refl, ap, sym, ◌∙◌, subst, arith}
use Rattle.std.specs.List.{slice_range}
use Rattle.gos_lex.specs.declared.token.Token.{Token}
use Rattle.gos_lex.specs.declared.token.TokenKind.{TokenKind}
use Rattle.gos_lex.specs.declared.token.TokenKind.TheVariants as kinds
use Rattle.gos_lex.specs.Names.{IsName, IsNameOrWord}
use Rattle.gos_lex.specs.Tokens.{AName, reading_of, reading_as, IsOfKind}
use Rattle.gos_syntax.specs.Grammar.{HasName}
use Rattle.gos_syntax.specs.declared.source.Source.{Source}
use Rattle.gos_syntax.specs.Items.{items_of, seen, Stands, reading_at, from_at, to_at, place_of}
use Rattle.gos_syntax.specs.inner.Stops.{IsKind}
use Rattle.gos_syntax.specs.Symbols.{Fits, SomeName}

-- an item is read as its token is
pub reading_there : (text : List ℕ) (tokens : List Token) (i : ℕ) (d : Token) → i < length tokens
    → reading_at (items_of text tokens) i ≡ Some (reading_of text (slice_index_or tokens i d))
reading_there text [] i d h = absurd (omega arith)
reading_there text (t ∷ tokens) zero d h = refl
reading_there text (t ∷ tokens) (suc i) d h = reading_there text tokens i d (omega arith)

-- an item begins where its token does
pub from_there : (text : List ℕ) (tokens : List Token) (i : ℕ) (d : Token) → i < length tokens
    → from_at (items_of text tokens) i ≡ (slice_index_or tokens i d).span.from
from_there text [] i d h = absurd (omega arith)
from_there text (t ∷ tokens) zero d h = refl
from_there text (t ∷ tokens) (suc i) d h = from_there text tokens i d (omega arith)

-- an item ends where its token does
pub to_there : (text : List ℕ) (tokens : List Token) (i : ℕ) (d : Token) → i < length tokens
    → to_at (items_of text tokens) i ≡ (slice_index_or tokens i d).span.to
to_there text [] i d h = absurd (omega arith)
to_there text (t ∷ tokens) zero d h = refl
to_there text (t ∷ tokens) (suc i) d h = to_there text tokens i d (omega arith)

-- past the last token stands nothing
pub none_there : (text : List ℕ) (tokens : List Token) (i : ℕ) → length tokens ≤ i → reading_at (items_of text tokens) i ≡ None
none_there text [] i h = refl
none_there text (t ∷ tokens) zero h = absurd (omega arith)
none_there text (t ∷ tokens) (suc i) h = none_there text tokens i (omega arith)

-- a token within is of its kind
pub kind_there : (source : Source) (i : ℕ) (d : Token) → i < length source.tokens.now
    → IsKind source i (slice_index_or source.tokens.now i d).kind
kind_there source i d h =
    record {
      within = h;
      reading =
          reading_there source.text.now source.tokens.now i d h
          ∙ sym (ap (λ (from : ℕ). Some (reading_as (slice_range source.text.now from (to_at (seen source) i)) (slice_index_or source.tokens.now i d).kind)) (from_there source.text.now source.tokens.now i d h)
          ∙ ap (λ (to : ℕ). Some (reading_as (slice_range source.text.now (slice_index_or source.tokens.now i d).span.from to) (slice_index_or source.tokens.now i d).kind)) (to_there source.text.now source.tokens.now i d h));
    }

-- a token that is of a name's kind
abbrev pub IsNameToken : Token → Type 0
IsNameToken token = token.kind ≡ kinds.Name

-- the bytes of a name's token are a name
pub bytes_there : (source : Source) (i : ℕ) (d : Token) → Stands source → i < length source.tokens.now
    → IsNameToken (slice_index_or source.tokens.now i d)
    → IsNameOrWord (slice_range source.text.now (slice_index_or source.tokens.now i d).span.from (slice_index_or source.tokens.now i d).span.to)
bytes_there source i d stands h is =
    let token : Token = slice_index_or source.tokens.now i d in
    let bytes : List ℕ = slice_range source.text.now token.span.from token.span.to in
    let name : IsName bytes = subst (λ (k : TokenKind). IsOfKind bytes k) is (stands i d h).kind in
    record { spelled = name.spelled; short = name.short }

-- the item of a name's token is a name
pub name_there : (source : Source) (i : ℕ) (d : Token) → i < length source.tokens.now
    → IsNameToken (slice_index_or source.tokens.now i d)
    → HasName (seen source) i (slice_range source.text.now (slice_index_or source.tokens.now i d).span.from (slice_index_or source.tokens.now i d).span.to)
name_there source i d h is =
    let token : Token = slice_index_or source.tokens.now i d in
    let bytes : List ℕ = slice_range source.text.now token.span.from token.span.to in
    reading_there source.text.now source.tokens.now i d h ∙ ap (λ (k : TokenKind). Some (reading_as bytes k)) is

-- only a name's token is read as a name
only_name : (bytes name : List ℕ) (kind : TokenKind) → Some (reading_as bytes kind) ≡ Some (AName name) → kind ≡ kinds.Name
only_name bytes name kinds.Name e = refl
only_name bytes name (kinds.Number value) e = cc
only_name bytes name (kinds.Word word) e = cc
only_name bytes name (kinds.Sign sign) e = cc

pub no_name_there : (source : Source) (i : ℕ) (d : Token) → i < length source.tokens.now
    → (IsNameToken (slice_index_or source.tokens.now i d) → ⊥) → Fits (reading_at (seen source) i) SomeName → ⊥
no_name_there source i d h is_not (name, is) =
    let token : Token = slice_index_or source.tokens.now i d in
    is_not (only_name (slice_range source.text.now token.span.from token.span.to) name token.kind (sym (reading_there source.text.now source.tokens.now i d h) ∙ is))

pub name_kind : (source : Source) (i : ℕ) (kind : TokenKind) → IsKind source i kind → kind ≡ kinds.Name → Fits (reading_at (seen source) i) SomeName
name_kind source i kind is e =
    let bytes : List ℕ = slice_range source.text.now (from_at (seen source) i) (to_at (seen source) i) in
    (bytes, is.reading ∙ ap (λ (k : TokenKind). Some (reading_as bytes k)) e)

-- past the last token stands no name
pub no_name_past : (source : Source) (i : ℕ) → length source.tokens.now ≤ i → Fits (reading_at (seen source) i) SomeName → ⊥
no_name_past source i h (name, is) =
    let past = none_there source.text.now source.tokens.now i h in
    cc

-- a token's place is where it begins
pub place_there : (text : List ℕ) (tokens : List Token) (i : ℕ) (d : Token) → i < length tokens
    → place_of text tokens i ≡ (slice_index_or tokens i d).span.from
place_there text [] i d h = absurd (omega arith)
place_there text (t ∷ tokens) zero d h = refl
place_there text (t ∷ tokens) (suc i) d h = place_there text tokens i d (omega arith)

-- past the last token the place is the end of the text
pub place_past : (text : List ℕ) (tokens : List Token) (i : ℕ) → length tokens ≤ i → place_of text tokens i ≡ length text
place_past text [] i h = refl
place_past text (t ∷ tokens) zero h = absurd (omega arith)
place_past text (t ∷ tokens) (suc i) h = place_past text tokens i (omega arith)
