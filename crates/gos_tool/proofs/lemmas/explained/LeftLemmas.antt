-- What `explain` leaves is right for `verify`: the files that it read are as they were, and MOVES holds the lines that were found.
use Rattle.std.specs.Prelude.{◌≡◌, ◌≢◌, ◌≤◌, ◌||◌, ◌∷◌, [], ℕ, Bool, false, List, Some, length}
use Rattle.std.specs.FinMap.{insert}
use Rattle.std.specs.List.{list_any}
use Rattle.std.specs.Str.{bytes_eq}
use Rattle.std.proofs.Common.{sym, ◌∙◌, ap, subst}
use Rattle.gos_outside.specs.Files.{Files, bytes_at}
use Rattle.gos_lex.specs.Lines.{Word}
use Rattle.gos_syntax.specs.Modules.{SeenModule}
use Rattle.gos_link.specs.BuildFile.{IsBuildFile}
use Rattle.gos_link.specs.declared.build.Instance.{Instance}
use Rattle.gos_witness.specs.MovesText.{moves_text}
use Rattle.gos_command.specs.declared.report.Report.{Report}
use Rattle.gos_tool.specs.objects.Checked.{SaysModule}
use Rattle.gos_tool.specs.build.Headline.{SayModules}
use Rattle.gos_tool.specs.explained.Taken.{has_file}
use Rattle.gos_tool.specs.explained.Texts.{SaysLabels}
use Rattle.gos_tool.specs.explained.Verified.{IsVerified}
use Rattle.gos_tool.specs.explained.Found.{IsExplained}
use Rattle.gos_tool.specs.explained.Complete.{ExplainedIsRight}
use Rattle.gos_tool.proofs.lemmas.build.ApartLemmas.{differ, left_false, right_false}
use Rattle.gos_tool.proofs.lemmas.build.HeadlineLemmas.{found_before, found_last}

-- sources say the same in files in which only one other file was written
sources_kept : (files : Files) (moves text : Word) (is : List Instance) (ms : List SeenModule) → list_any (has_file moves) is ≡ false
    → SayModules files is ms → SayModules (insert files moves text) is ms
sources_kept files moves text [] [] free say = say
sources_kept files moves text [] (m ∷ ms) free say = say
sources_kept files moves text (i ∷ is) [] free say = say
sources_kept files moves text (i ∷ is) (m ∷ ms) free say =
    let here = left_false (has_file moves i) (list_any (has_file moves) is) free in
    let source = differ i.source moves (left_false (bytes_eq i.source moves) (bytes_eq i.object moves) here) in (
      subst (λ (bytes : List ℕ). SaysModule bytes m) (sym (found_before files moves text i.source source)) say.0,
      sources_kept files moves text is ms (right_false (has_file moves i) (list_any (has_file moves) is) free) say.1,
    )

module _ (files new : Files) (own moves : Word) (report : Report) (apart : moves ≢ own) (e : IsExplained files (Some new) own moves report) where
  abbrev text : List ℕ
  text = moves_text e.found.lines

  left : new ≡ insert files moves text
  left = let wrote : Some new ≡ Some (insert files moves text) = e.found.wrote in cc wrote

  kept : (name : Word) → name ≢ moves → bytes_at new name ≡ bytes_at files name
  kept name other = ap (λ (f : Files). bytes_at f name) left ∙ found_before files moves text name other

  held : bytes_at new moves ≡ text
  held = ap (λ (f : Files). bytes_at f moves) left ∙ found_last files moves text

  abbrev of_instances : Bool
  of_instances = list_any (has_file moves) e.build.instances.items

  abbrev of_verilog : Bool
  of_verilog = bytes_eq e.build.verilog moves || (bytes_eq e.build.pulses moves || bytes_eq e.build.trace moves)

  rest_no : (bytes_eq e.build.net moves || of_verilog) ≡ false
  rest_no = right_false of_instances (bytes_eq e.build.net moves || of_verilog) e.free

  trace_no : bytes_eq e.build.trace moves ≡ false
  trace_no =
      right_false (bytes_eq e.build.pulses moves) (bytes_eq e.build.trace moves)
      (right_false (bytes_eq e.build.verilog moves) (bytes_eq e.build.pulses moves || bytes_eq e.build.trace moves)
      (right_false (bytes_eq e.build.net moves) of_verilog rest_no))

  said : SayModules new e.build.instances.items e.sources.modules
  said =
      subst (λ (f : Files). SayModules f e.build.instances.items e.sources.modules) (sym left)
      (sources_kept files moves text e.build.instances.items e.sources.modules (left_false of_instances (bytes_eq e.build.net moves || of_verilog) e.free) e.sources.say)

  pub is_right : length (bytes_at new moves) ≤ 268435456 → IsVerified new own moves report
  is_right short =
      record {
        build = e.build;
        whole = e.whole;
        says = subst (λ (bytes : List ℕ). IsBuildFile bytes own e.build) (sym (kept own (λ same. apart (sym same)))) e.says;
        sources = record { modules = e.sources.modules; links = e.sources.links; say = said; linked = e.sources.linked };
        explained = record {
          labels = e.found.labels;
          lines = e.found.lines;
          says_labels =
              subst (λ (bytes : List ℕ). SaysLabels e.whole.ports bytes e.found.labels)
              (sym (kept e.build.trace (differ e.build.trace moves trace_no))) e.found.says_labels;
          says_lines = record { short = short; is = record { are = e.found.are; is = held } };
          explained = e.found.explained;
          is_trace = e.found.is_trace;
          tells = e.found.tells;
        };
      }

pub explained_is_right : ExplainedIsRight
explained_is_right files new own moves report apart e short = is_right files new own moves report apart e short
