-- A text that is written token by token says the module that its tokens derive, where no fault is found in that.
use Rattle.std.proofs.Common.{◌≡◌, ℕ, ◌≤◌, List, length, Ok, ap, arith}
use Rattle.std.proofs.lemmas.List.{length-map}
use Rattle.gos_lex.specs.declared.token.Token.{Token}
use Rattle.gos_lex.specs.Tokens as lexing
use Rattle.gos_lex.specs.Tokens.{Reading, readings_of}
use Rattle.gos_syntax.specs.Items.{Item, items_of}
use Rattle.gos_syntax.specs.Modules.{SeenModule}
use Rattle.gos_syntax.specs.ModuleTrees.{module_tree}
use Rattle.gos_syntax.specs.ParsedModules.{IsModule}
use Rattle.gos_syntax.proofs.WrittenLemmas.{Written, written_reads}
use Rattle.gos_check.specs.Accepted.{FoundExactly}
use Rattle.gos_check.specs.Judgements.{module_judged}
use Rattle.gos_tool.specs.objects.Checked.{SaysModule}
use Rattle.gos_tool.proofs.lemmas.demo.ScanLemmas.{AreRead, are_read}
use Rattle.gos_tool.proofs.lemmas.demo.LimitLemmas.{none_is_deep, none_is_extra}

-- The text is written as these tokens, whatever their places; they derive this module, which is accepted with this weight.
pub record IsSourceOf (text : List ℕ) (rs : List Reading) (made : List Item → SeenModule) (w : ℕ) : Type 0 where
  pub short : length text ≤ 65536
  pub few : length rs ≤ 64
  pub written : Written text rs
  pub derived : (items : List Item) → AreRead items rs → IsModule items (module_tree (made items))
  pub judged : (items : List Item) → module_judged (made items) ≡ Ok w

-- the tokens are few
few_tokens : (text : List ℕ) (tokens : List Token) (rs : List Reading) → readings_of text tokens ≡ rs → length rs ≤ 64 → length tokens ≤ 64
few_tokens text tokens rs same few =
    let size : length (readings_of text tokens) ≡ length tokens = length-map tokens (lexing.reading_of text) in
    let other : length (readings_of text tokens) ≡ length rs = ap length same in
    omega (arith, size, other, few)

-- the items of the text
abbrev pub items_in : {text : List ℕ} {rs : List Reading} {made : List Item → SeenModule} {w : ℕ} → IsSourceOf text rs made w → List Item
items_in {text} {rs} is = items_of text (written_reads text rs is.written).tokens

pub says_module : {text : List ℕ} {rs : List Reading} {made : List Item → SeenModule} {w : ℕ} → FoundExactly → (is : IsSourceOf text rs made w)
    → SaysModule text (made (items_in is))
says_module {text} {rs} {made} {w} exactly is =
    let read = written_reads text rs is.written in
    let items : List Item = items_of text read.tokens in
    let few = few_tokens text read.tokens rs read.same is.few in
    record {
      source =
          record {
            tokens = read.tokens;
            scanned = record { short = is.short; reads = read.reads };
            parsed =
                record {
                  derived = is.derived items (are_read text read.tokens rs read.same);
                  nesting = none_is_deep text read.tokens few;
                  imports = none_is_extra text read.tokens few;
                };
          };
      accepted = ((exactly (made items) w).0 (is.judged items)).0;
    }
