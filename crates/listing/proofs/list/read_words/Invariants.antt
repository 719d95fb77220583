use Rattle.std.proofs.Common.{◌≡◌, length}
use Rattle.listing.specs.Lists.{fields, words_onto}
use Rattle.listing.proofs.list.read_words.Given as goal

abbrev pub invariant-loop-word : goal.invariant-loop-word
invariant-loop-word g l =
    let with = g.W.Words.with in
    words_onto with (g.W.Words.held l.words) (fields 44 l.rest) ≡ words_onto with (g.W.Words.held l.fn.words) (fields 44 l.inner)

abbrev pub decreases-loop-word : goal.decreases-loop-word
decreases-loop-word g l = length l.rest
