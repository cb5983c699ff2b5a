-- `finder::search::search_letters` meets its contract. Assumes nothing.
use Rattle.std.proofs.Common.{rules, ◌≡◌, ℕ, ap, ◌∙◌, length, replicate}
use Rattle.finder.proofs.Searches.{can_lend, can_find_lent, found_lent, letters_over, none_yet}
use Rattle.finder.proofs.search.search_letters.Goals as goal

pub of-requires : goal.of-requires
of-requires c = can_lend _ c.write_letters.ensures

pub find-tally-requires : goal.find-tally-requires
find-tally-requires c = can_find_lent _ c.write_letters.ensures c.of.ensures _ c.requires.0 (none_yet _ c.default.ensures)

pub returns-clause-searches_all : goal.returns-clause-searches_all
returns-clause-searches_all c =
    let same : length c.find-tally.new.work ≡ length c.args.work.now = search rules in
    record {
      keeps = found_lent _ c.write_letters.ensures c.of.ensures _ c.find-tally.ensures.keeps (none_yet _ c.default.ensures);
      leaves_work = c.fill.ensures.after (λ n e. e) ∙ ap (λ (n : ℕ). replicate n 0) same;
    }

pub returns-clause-buffer_after : goal.returns-clause-buffer_after
returns-clause-buffer_after c = letters_over _ c.write_letters.ensures _
