use Rattle.std.proofs.Common.{sym, ◌∙◌, ap, subst, ◌≡◌}
use Rattle.logbook.specs.Pages.{Named}
use Rattle.lossy_link.specs.Gates.{Half, after_word, crossing, word_in}
use Rattle.lossy_link.proofs.Gates.{cross_moves_as}
use Rattle.lossy_link.proofs.gate.Gate.cross.Goals as goal

pub compare_exchange-found-requires : goal.compare_exchange-found-requires
compare_exchange-found-requires c =
    let word : c.deref.result.now ≡ word_in c.self.inside.seen.book = c.deref.ensures ∙ c.self.invariant in
    let offer = c.plain-offer.ensures in
    let pen = c.no_pen-pen.ensures in
    let goes : after_word c.args.old (crossing c.self.inside.second c.args.enters) ≡ c.args.new = subst (λ (h : Half). after_word c.args.old (crossing h.second c.args.enters) ≡ c.args.new) (sym c.self.view_is) c.requires in (
      ap (λ (w : Named). w.tracked) word,
      sym (ap (λ (w : Named). w.book) word),
      pen.0 ∙ sym (ap (λ (w : Named). w.book) word),
      offer.0,
      cross_moves_as c.self.inside.seen.log (crossing c.self.inside.second c.args.enters) c.plain-offer.result.ask c.deref.result.now.key c.args.old c.args.new c.no_pen-pen.result.nib c.plain-offer.result.state
          (ap (λ (w : Named). w.key) word) pen.1 offer.3 goes,
    )
