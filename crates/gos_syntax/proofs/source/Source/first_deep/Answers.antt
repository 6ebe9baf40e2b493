use Rattle.std.proofs.Common.{ℕ, List, ◌∙◌, ap, sym, slice_index_or, arith, below_more}
use Rattle.std.specs.List.{slice_range}
use Rattle.gos_lex.specs.declared.token.Token.{Token}
use Rattle.gos_lex.specs.declared.token.TokenKind.TheVariants as kinds
use Rattle.gos_lex.specs.Tokens.{reading_as}
use Rattle.gos_syntax.specs.Items.{seen}
use Rattle.gos_syntax.specs.OpenTokens.{Levels, past, at_first}
use Rattle.gos_syntax.proofs.NestingLemmas.{levels_step, open_kept}
use Rattle.gos_syntax.proofs.source.Source.first_deep.Goals as goal

pub loop-at-preserved : goal.loop-at-preserved
loop-at-preserved c =
    record {
      levels =
          let d : Token = record { kind = kinds.Name; span = record { from = 0; to = 0 } } in
          let token : Token = slice_index_or c.args.self.now.tokens.now c.loop-at.at d in
          let bytes : List ℕ = slice_range c.args.self.now.text.now token.span.from token.span.to in
          c.in_ok-pass.ensures.levels bytes
          ∙ ap (λ (levels : Levels). past levels (reading_as bytes token.kind)) c.loop-at.invariant.levels
          ∙ sym (levels_step c.args.self.now.text.now c.args.self.now.tokens.now at_first c.loop-at.at d (omega arith));
      counted = c.in_ok-pass.ensures.counted;
      grown = c.in_ok-pass.ensures.grown;
      none = below_more _ _ c.loop-at.invariant.none (λ deep. let e = open_kept c.loop-at.nesting (seen c.args.self.now) c.loop-at.at c.loop-at.invariant.levels c.loop-at.invariant.counted in omega (arith, e, deep));
    }
