use Rattle.std.proofs.Common.{◌∷◌, ap₂, refl}
use Rattle.omega_words.specs.Built.{built_words}
use Rattle.omega_words.proofs.choices.table.Goals as goal

pub returns : goal.returns
unfolding built_words
returns c =
    ap₂ ◌∷◌ c.make_choice.ensures
    (ap₂ ◌∷◌ c.make_choice-2.ensures
    (ap₂ ◌∷◌ c.make_choice-3.ensures
    (ap₂ ◌∷◌ c.make_choice-4.ensures
    (ap₂ ◌∷◌ c.make_choice-5.ensures
    (ap₂ ◌∷◌ c.make_choice-6.ensures
    (ap₂ ◌∷◌ c.make_choice-7.ensures
    (ap₂ ◌∷◌ c.make_choice-8.ensures
    (ap₂ ◌∷◌ c.make_choice-9.ensures
    (ap₂ ◌∷◌ c.make_choice-10.ensures
    (ap₂ ◌∷◌ c.make_choice-11.ensures
    (ap₂ ◌∷◌ c.make_choice-12.ensures
    (ap₂ ◌∷◌ c.make_choice-13.ensures
    (ap₂ ◌∷◌ c.make_choice-14.ensures
    (ap₂ ◌∷◌ c.make_choice-15.ensures
    (ap₂ ◌∷◌ c.make_choice-16.ensures
    (ap₂ ◌∷◌ c.make_choice-17.ensures
    (ap₂ ◌∷◌ c.make_choice-18.ensures
    (ap₂ ◌∷◌ c.make_choice-19.ensures
    (ap₂ ◌∷◌ c.make_choice-20.ensures
    (ap₂ ◌∷◌ c.make_choice-21.ensures
    (ap₂ ◌∷◌ c.make_choice-22.ensures refl)))))))))))))))))))))
