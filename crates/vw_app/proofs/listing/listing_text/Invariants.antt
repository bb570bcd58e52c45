use Rattle.vw_app.proofs.listing.listing_text.Given as goal

abbrev pub ghosts-listing_from : goal.ghosts-listing_from
ghosts-listing_from a = record { name = a.blank.name; parts = a.blank.parts }
