-- A record in a local of its owner's: its machine value, and the two directions between the local's cell and what a loan is made of and comes back as.
use Prim.Native.Nat.{ℕ}
use mathlib.Core.List.{[], ◌∷◌, List}
use seplogic.Ra.Ura.{Ura}
use base.Fraction.{full_share}
use mir.Val.{Val}
use base.Logic.{ent, sep}
use base.Fml.{fsep, fat}
use types.Logic.{Logic, sem}
use types.Kit.{‵, ◌$◌, ◌∵◌, !, qed, move, use1, fsplit, fjoin, fpick, fpack, frame, done}
use denote.Laws.{Is, shows}
use denote.Memory.{mem, cell_at, part_of}
use denote.Steps.{owned}
use denote.Struct.Steps.{spelt}
use denote.Struct.Laws as LL
use Rattle.messages.specs.declared.Record.{Record}
use Rattle.messages.specs.contracts.Record as T
use Rattle.messages.proofs.Record.TheLaws as T'

abbrev pub mach : Record → Val
mach h = LL.val T.the_type T'.the_laws h

module _ {M : Type 1} {𝓤 : Ura M} (𝓛 : Logic 𝓤) (h : Record) (b o : ℕ) where
  open 𝓛 use {H}

  pub to_lend : Is T.the_row h (mach h ∷ []) → ent 𝓤 (H.at full_share T'.mir b o (mach h)) (sem 𝓛 ((mem T.the_row).own_at h b o))
  unfolding part_of
  to_lend was =
      qed 𝓛 (‵ (fat full_share T'.mir b o (mach h)) ∷ []) ∵ use1 𝓛 (‵ (cell_at full_share (T.the_row).mir (mach h ∷ []) b o)) (𝓛.laws.at_raw full_share T'.mir b o (mach h)) $
      owned ! T.the_row (Is T.the_row) (LL.makes T.the_type T'.the_plain 𝓛) h _ was $ move ! (1 ∷ 0 ∷ []) $ fjoin ! $
      fpack ! (List Val) (λ vs. fsep (cell_at full_share (T.the_row).mir vs b o) ((T.the_row).own_val h vs)) (mach h ∷ []) $ done !

  pub handed_back : ent 𝓤 (sem 𝓛 ((mem T.the_row).own_at h b o)) (sep 𝓤 (H.at full_share T'.mir b o (mach h)) (sem 𝓛 ((T.the_row).own_val h (mach h ∷ []))))
  unfolding part_of
  handed_back =
      qed 𝓛 (‵ ((mem T.the_row).own_at h b o) ∷ []) ∵ fpick ! (λ vs. fsplit ! $ spelt ! T.the_row (Is T.the_row) (shows 𝓛 T.the_row) (LL.vals T.the_type T'.the_laws) (LL.tells T.the_type T'.the_laws) full_share h vs b o $
      use1 𝓛 (‵ (fat full_share T'.mir b o (mach h))) (𝓛.laws.raw_at full_share T'.mir b o (mach h)) $ frame ! $ done !)
