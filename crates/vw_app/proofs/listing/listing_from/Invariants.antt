use Rattle.std.proofs.Common.{◌-◌, length, take}
use Rattle.vw_state.specs.Context.{context_of}
use Rattle.vw_app.specs.Listing.{AreTexts, Appends, IsFunctionListing}
use Rattle.vw_app.proofs.listing.listing_from.Given as goal

abbrev pub invariant-loop-number : goal.invariant-loop-number
invariant-loop-number g l = Appends (AreTexts (λ f. IsFunctionListing (context_of l.loaded f) f.name) (take l.number l.loaded.functions)) l.initial.text l.text

abbrev pub decreases-loop-number : goal.decreases-loop-number
decreases-loop-number g l = length l.functions - l.number
