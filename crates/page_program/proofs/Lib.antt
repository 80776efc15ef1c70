mod Longest
