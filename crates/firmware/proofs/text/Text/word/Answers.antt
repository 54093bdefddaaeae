use Rattle.std.proofs.Common.{◌≤◌, [], ◌∷◌, ◌++◌, get_or, length, take, sym, ap, ◌∙◌, append-nil, arith, rules, OnOk, ◌≡◌}
use Rattle.std.proofs.lemmas.List.{take_all, take_more, length-take}
use Rattle.fixed.specs.Values.{values}
use Rattle.firmware.specs.Text.{content, written}
use Rattle.firmware.proofs.Cutting.{written-written, pushed}
use Rattle.firmware.proofs.text.Text.word.Goals as goal

pub loop-byte-init : goal.loop-byte-init
loop-byte-init c =
    let text = content c.args.self.now in
    rw (append-nil text) (sym (take_all 128 text (omega (arith, length-take c.args.self.now.list.len c.args.self.now.list.places, c.args.self.now.list.held.few))))

pub loop-byte-preserved : goal.loop-byte-preserved
loop-byte-preserved c =
    let text = content c.args.self.now in
    let now = content c.loop-byte.self in
    let word = c.args.word.now in
    let index = c.loop-byte.byte-index in
    let few : length now ≤ 128 = omega (arith, ap length c.loop-byte.invariant, length-take 128 (text ++ take index word)) in
    let more : OnOk c.push.result (values c.push.new.self ≡ now ++ (get_or word index 0 ∷ [])) = search rules in
    pushed values c.loop-byte.self.list c.push.new.self (get_or word index 0) c.push.result few c.push.ensures.room more c.push.ensures.err
    ∙ ap (λ held. written held (get_or word index 0 ∷ [])) c.loop-byte.invariant
    ∙ written-written text (take index word) (get_or word index 0 ∷ [])
    ∙ ap (written text) (sym (take_more word index 0 c.loop-byte-test.true))
