use Rattle.std.proofs.Common.{length, map, refl, ap, ◌∙◌, arith}
use Rattle.std.proofs.lemmas.List.{map_push}
use Rattle.m17_reflect.proofs.NewLanes.{rows_more, row_fits, lines_none, lines_more}
use Rattle.m17_reflect.proofs.lines.lay_marked_lines.Goals as goal

pub loop-row-init : goal.loop-row-init
loop-row-init g c =
    let qs = c.in_ok-pushers in let ps = c.in_ok-poppers in
    let no_qs = ap length qs.ensures.0 in let no_ps = ap length ps.ensures.0 in record {
      lines = lines_none c.args.capacity c.args.count (map (λ row. row.items) qs.pushers.items) (map (λ row. row.items) ps.poppers.items)
          (ap (map (λ row. row.items)) qs.ensures.0) (ap (map (λ row. row.items)) ps.ensures.0);
      pushers = (omega (arith, no_qs, qs.pushers.ok.0), qs.ensures.1);
      poppers = (omega (arith, no_ps, ps.poppers.ok.0), ps.ensures.1);
      marks = (omega (arith, c.requires.first), refl);
    }

pub loop-row-preserved : goal.loop-row-preserved
loop-row-preserved g c =
    let now = c.loop-row in let made = c.in_ok-line in let first = c.push_reserved in let second = c.push_reserved-in-loop-row in record {
      lines = lines_more c.args.capacity now.row c.args.count
          (map (λ row. row.items) now.pushers.items) (map (λ row. row.items) first.new.self.items)
          (map (λ row. row.items) now.poppers.items) (map (λ row. row.items) second.new.self.items) made.line.pushers.items made.line.poppers.items
          now.invariant.lines
          (ap (map (λ row. row.items)) first.ensures.items ∙ map_push (λ row. row.items) now.pushers.items made.line.pushers)
          (ap (map (λ row. row.items)) second.ensures.items ∙ map_push (λ row. row.items) now.poppers.items made.line.poppers)
          made.ensures.line made.ensures.count;
      pushers = (omega (arith, now.invariant.pushers.0, first.ensures.len), omega (arith, now.invariant.pushers.1, first.ensures.capacity));
      poppers = (omega (arith, now.invariant.poppers.0, second.ensures.len), omega (arith, now.invariant.poppers.1, second.ensures.capacity));
      marks = (made.ensures.laid ∙ rows_more now.row c.args.count, made.ensures.lanes ∙ now.invariant.marks.1);
    }

pub overflow_mul-row : goal.overflow_mul-row
overflow_mul-row g c = omega (arith, row_fits c.loop-row.row c.args.rows c.args.count (omega arith), c.requires.fits)

pub lay_marked_line-requires-clause-fits : goal.lay_marked_line-requires-clause-fits
lay_marked_line-requires-clause-fits g c = omega (arith, row_fits c.loop-row.row c.args.rows c.args.count (omega arith), c.requires.fits)
