mod Verdict
