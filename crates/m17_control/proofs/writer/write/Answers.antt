use Rattle.m17_control.proofs.writer.write.Goals as goal

pub returns-in-Conn : goal.returns-in-Conn
returns-in-Conn c =
    let written = c.with_module.ensures in
    rw c.in-Conn.is (written.in_range, written.letter, written.items)

pub returns-in-Lstn : goal.returns-in-Lstn
returns-in-Lstn c =
    let written = c.with_module-in-Lstn.ensures in
    rw c.in-Lstn.is (written.in_range, written.letter, written.items)
